-- The diagrams of the ARM2 data sheet ("Instruction set summary"): each form as the list of its
-- fields from bit 31 down, with the size and the number of each. An instruction's word is its
-- fields one beside the other.
use Rattle.std.specs.Prelude.{ℕ, ◌+◌, ◌*◌, ◌^◌, Bool, true, false, List, [], ◌∷◌, fold}
use Rattle.std.specs.Int.{from_bool}
use Rattle.arm_decode.specs.Names.{condition_code, operation_code, shift_code, block_mode_code, is_up, is_pre_indexed, has_w}
use Rattle.arm_decode.specs.declared.action.Action.{Action}
use Rattle.arm_decode.specs.declared.action.Action.TheVariants as action
use Rattle.arm_decode.specs.declared.address.Offset.{Offset}
use Rattle.arm_decode.specs.declared.address.Offset.TheVariants as offset
use Rattle.arm_decode.specs.declared.condition.Condition.{Condition}
use Rattle.arm_decode.specs.declared.operand.Operand.{Operand}
use Rattle.arm_decode.specs.declared.operand.Operand.TheVariants as operand
use Rattle.arm_decode.specs.declared.shift.ShiftedRegister.{ShiftedRegister}

-- size and number
abbrev pub Diagram : Type 0
Diagram = List (ℕ × ℕ)

abbrev pub word_of_diagram : Diagram → ℕ
word_of_diagram fields = fold (λ above f. above * 2 ^ f.0 + f.1) 0 fields

-- amount, type, 0, Rm
abbrev pub shifted_fields : ShiftedRegister → Diagram
shifted_fields s = (5, s.amount) ∷ (2, shift_code s.shift) ∷ (1, 0) ∷ (4, s.rm) ∷ []

-- rotate, immediate; or Rs, 0, type, 1, Rm
abbrev pub operand_fields : Operand → Diagram
operand_fields (operand.Immediate rotation byte) = (4, rotation) ∷ (8, byte) ∷ []
operand_fields (operand.Shifted s) = shifted_fields s
operand_fields (operand.ShiftedByRegister rm shift rs) =
    (4, rs) ∷ (1, 0) ∷ (2, shift_code shift) ∷ (1, 1) ∷ (4, rm) ∷ []

abbrev pub offset_fields : Offset → Diagram
offset_fields (offset.Immediate number) = (12, number) ∷ []
offset_fields (offset.Shifted s) = shifted_fields s

-- bit I
abbrev pub is_immediate : Operand → Bool
is_immediate (operand.Immediate rotation byte) = true
is_immediate _ = false

abbrev pub is_shifted : Offset → Bool
is_shifted (offset.Immediate number) = false
is_shifted (offset.Shifted s) = true

-- the 28 bits below the condition
abbrev pub action_fields : Action → Diagram
-- 00, I, opcode, S, Rn, Rd, operand 2
action_fields (action.Operate o) =
    (2, 0) ∷ (1, from_bool (is_immediate o.operand)) ∷ (4, operation_code o.operation)
    ∷ (1, from_bool o.sets_flags)
    ∷ (4, o.rn) ∷ (4, o.rd) ∷ (12, word_of_diagram (operand_fields o.operand)) ∷ []
-- 000000, A, S, Rd, Rn, Rs, 1001, Rm
action_fields (action.Multiply m) =
    (6, 0) ∷ (1, from_bool m.accumulates) ∷ (1, from_bool m.sets_flags)
    ∷ (4, m.rd) ∷ (4, m.rn) ∷ (4, m.rs) ∷ (4, 9) ∷ (4, m.rm) ∷ []
-- 01, I, P, U, B, W, L, Rn, Rd, offset
action_fields (action.Transfer t) =
    (2, 1) ∷ (1, from_bool (is_shifted t.address.offset)) ∷ (1, from_bool (is_pre_indexed t.address.indexing))
    ∷ (1, from_bool (is_up t.address.direction)) ∷ (1, from_bool t.is_byte)
    ∷ (1, from_bool (has_w t.address.indexing))
    ∷ (1, from_bool t.loads) ∷ (4, t.address.rn) ∷ (4, t.rd)
    ∷ (12, word_of_diagram (offset_fields t.address.offset)) ∷ []
-- 100, P and U, S, W, L, Rn, register list
action_fields (action.BlockTransfer b) =
    (3, 4) ∷ (2, block_mode_code b.mode) ∷ (1, from_bool b.psr_or_user) ∷ (1, from_bool b.writes_back)
    ∷ (1, from_bool b.loads) ∷ (4, b.rn) ∷ (16, b.list) ∷ []
-- 101, L, offset
action_fields (action.Branch links distance) = (3, 5) ∷ (1, from_bool links) ∷ (24, distance) ∷ []
-- 1111, number
action_fields (action.SoftwareInterrupt number) = (4, 15) ∷ (24, number) ∷ []

abbrev pub word_of_instruction : Condition × Action → ℕ
word_of_instruction i = word_of_diagram ((4, condition_code i.0) ∷ (28, word_of_diagram (action_fields i.1))
    ∷ [])
