-- The conditions on an instruction's parts by which the table refuses it, in their order. They are
-- the undefined and unpredictable cases of the ARM2 data sheet; the names and the order are this
-- project's own.
use Rattle.std.specs.Prelude.{ℕ, Bool, true, false, ◌==◌, ◌&&◌, ◌||◌, not, List, [], ◌∷◌, Option, find, option_map}
use Rattle.profile.specs.Fault.{Fault}
use Rattle.profile.specs.Fault.TheVariants.{Unallocated, PcOperand, MultiplySame, EmptyList, UserBankWriteback}
use Rattle.profile.specs.Word.{bit_of}
use Rattle.arm_decode.specs.declared.action.Action.{Action}
use Rattle.arm_decode.specs.declared.action.Action.TheVariants as action
use Rattle.arm_decode.specs.declared.address.Indexing.{Indexing}
use Rattle.arm_decode.specs.declared.address.Indexing.TheVariants.{Post, Pre}
use Rattle.arm_decode.specs.declared.address.Offset.{Offset}
use Rattle.arm_decode.specs.declared.address.Offset.TheVariants as offset
use Rattle.arm_decode.specs.declared.operand.Operand.{Operand}
use Rattle.arm_decode.specs.declared.operand.Operand.TheVariants as operand
use Rattle.arm_decode.specs.declared.operation.Operation.{Operation}
use Rattle.arm_decode.specs.declared.operation.Operation.TheVariants.{Test, TestEquivalence, Compare, CompareNegated, Move, MoveNot}

abbrev pub is_pc : ℕ → Bool
is_pc register = register == 15

-- TST, TEQ, CMP and CMN have no result of their own
abbrev pub is_test : Operation → Bool
is_test Test = true
is_test TestEquivalence = true
is_test Compare = true
is_test CompareNegated = true
is_test _ = false

-- MOV and MVN have no first operand
abbrev pub is_move : Operation → Bool
is_move Move = true
is_move MoveNot = true
is_move _ = false

abbrev pub writes_base : Indexing → Bool
writes_base (Post translates) = true
writes_base (Pre writes_back) = writes_back

abbrev pub shifts_by_pc : Operand → Bool
shifts_by_pc (operand.ShiftedByRegister rm shift rs) = is_pc rs
shifts_by_pc _ = false

abbrev pub offset_is_pc : Offset → Bool
offset_is_pc (offset.Shifted shifted) = is_pc shifted.rm
offset_is_pc (offset.Immediate number) = false

-- a test without S, or whose Rd field is neither 0 nor 15; MOV, MVN or MUL with an Rn field
abbrev pub is_unallocated : Action → Bool
is_unallocated (action.Operate o) =
    (is_test o.operation && (not o.sets_flags || not (o.rd == 0 || is_pc o.rd)))
    || (is_move o.operation && not (o.rn == 0))
is_unallocated (action.Multiply m) = not m.accumulates && not (m.rn == 0)
is_unallocated _ = false

-- R15 as Rs of a shift; anywhere in a multiply; as the offset of LDR or STR, as their base where it
-- is written, as Rd of a byte; as the base of LDM or STM
abbrev pub pc_operand : Action → Bool
pc_operand (action.Operate o) = shifts_by_pc o.operand
pc_operand (action.Multiply m) = is_pc m.rd || is_pc m.rn || is_pc m.rs || is_pc m.rm
pc_operand (action.Transfer t) =
    offset_is_pc t.address.offset || (is_pc t.address.rn && writes_base t.address.indexing)
    || (is_pc t.rd && t.is_byte)
pc_operand (action.BlockTransfer b) = is_pc b.rn
pc_operand _ = false

abbrev pub multiply_same : Action → Bool
multiply_same (action.Multiply m) = m.rd == m.rm
multiply_same _ = false

abbrev pub empty_list : Action → Bool
empty_list (action.BlockTransfer b) = b.list == 0
empty_list _ = false

-- S with W, except in LDM with R15 in its list
abbrev pub user_bank_writeback : Action → Bool
user_bank_writeback (action.BlockTransfer b) = b.psr_or_user && b.writes_back
    && not (b.loads && bit_of b.list 15)
user_bank_writeback _ = false

abbrev pub refusals : List (Fault × (Action → Bool))
refusals =
    (Unallocated, is_unallocated) ∷ (PcOperand, pc_operand) ∷ (MultiplySame, multiply_same)
    ∷ (EmptyList, empty_list)
    ∷ (UserBankWriteback, user_bank_writeback) ∷ []

-- the first that holds
abbrev pub refusal : Action → Option Fault
refusal a = option_map (λ r. r.0) (find (λ r. r.1 a) refusals)
