-- What each kind of an op says of the word and its parts: the instruction that the word is, and the parts of it that the kind needs.
use Rattle.std.specs.Prelude.{◌≡◌, ◌≢◌, ◌<◌, ◌+◌, ◌-◌, if◌then◌else◌, ◌*◌, ◌%◌, ◌^◌, ◌&&◌, ◌==◌, ℕ, Bool, true, false, not, length, ⊤, Ok}
use Rattle.arm_core.specs.Shifted.{rotated_right}
use Rattle.arm_core.specs.Word.{field, bit_of}
use Rattle.arm_core.specs.Decoded.{instruction_of_word}
use Rattle.arm_core.specs.Fields.{block_transfer_in, condition_in, immediate_in, multiply_in, operate_in, shifted_in, transfer_in}
use Rattle.arm_core.specs.Names.{block_mode_of, indexing_of, shift_of}
use Rattle.arm_core.specs.Refusals.{is_test}
use Rattle.arm_core.specs.Action.{Action}
use Rattle.arm_core.specs.Action.TheVariants as action
use Rattle.arm_core.specs.Condition.{Condition}
use Rattle.arm_core.specs.Condition.TheVariants as condition
use Rattle.arm_core.specs.BlockMode.{BlockMode}
use Rattle.arm_core.specs.BlockMode.TheVariants.{DecrementAfter, IncrementAfter, DecrementBefore, IncrementBefore}
use Rattle.arm_core.specs.Indexing.{Indexing}
use Rattle.arm_core.specs.Indexing.TheVariants as indexing
use Rattle.arm_core.specs.Offset.{Offset}
use Rattle.arm_core.specs.Offset.TheVariants as offset
use Rattle.arm_core.specs.ArmDecodeOperand.{Operand}
use Rattle.arm_core.specs.ArmDecodeOperand.TheVariants as operand
use Rattle.arm_core.specs.Operation.{Operation}
use Rattle.arm_core.specs.Operation.TheVariants as operation
use Rattle.arm_core.specs.Shift.TheVariants as shift
use Rattle.arm_core.specs.Listed.{registers_of_list}
use Rattle.arm_predecode.specs.declared.kind.OpKind.{OpKind}
use Rattle.arm_predecode.specs.declared.kind.OpKind.TheVariants as kind
use Rattle.arm_predecode.specs.OpValue.{OpValue}

-- The word is carried out under this condition, and does this then.
pub record Does (c : Condition) (a : Action) (r : OpValue) : Type 0 where
  pub condition : condition_in r.word ≡ c
  pub instruction : instruction_of_word r.word ≡ Ok (c, a)

-- Data processing of this operation with this second operand, whatever the flags are. Neither the first operand nor the destination is R15, and what
-- sets no flags has a destination.
pub record OperatesPlainly (op : Operation) (sets : Bool) (second : Operand) (r : OpValue) : Type 0 where
  pub does : Does condition.Always (action.Operate (operate_in second r.word)) r
  pub operation : (operate_in second r.word).operation ≡ op
  pub flags : (operate_in second r.word).sets_flags ≡ sets
  pub places : (is_test op && not sets) ≡ false
  pub rd : r.rd ≡ field r.word 12 4
  pub rd_below : r.rd < 15
  pub rn : r.rn ≡ field r.word 16 4
  pub rn_below : r.rn < 15

-- with an immediate operand: its value, and whether it was rotated, so that C comes from it
pub record OperatesByImmediate (op : Operation) (sets : Bool) (r : OpValue) : Type 0 where
  pub operates : OperatesPlainly op sets (immediate_in r.word) r
  pub value : r.value ≡ rotated_right (field r.word 0 8) (2 * field r.word 8 4)
  pub rotated : r.is_rotated ≡ not (field r.word 8 4 == 0)

-- with a register that is not R15, as it is
pub record OperatesByRegister (op : Operation) (sets : Bool) (r : OpValue) : Type 0 where
  pub operates : OperatesPlainly op sets (operand.Shifted (shifted_in r.word)) r
  pub rm : r.rm ≡ field r.word 0 4
  pub rm_below : r.rm < 15
  pub amount : field r.word 7 5 ≡ 0
  pub shift : shift_of (field r.word 5 2) ≡ shift.LogicalLeft

-- with such a register shifted by an amount of at least 1, which is the value
pub record OperatesByShift (op : Operation) (sets : Bool) (r : OpValue) : Type 0 where
  pub operates : OperatesPlainly op sets (operand.Shifted (shifted_in r.word)) r
  pub rm : r.rm ≡ field r.word 0 4
  pub rm_below : r.rm < 15
  pub amount : r.value ≡ field r.word 7 5
  pub some : 0 < r.value
  pub below : r.value < 32
  pub shift : r.shift ≡ shift_of (field r.word 5 2)

-- a branch, whose value is the distance of its target from the branch, in words
pub record Branches (c : Condition) (links : Bool) (r : OpValue) : Type 0 where
  pub does : Does c (action.Branch links (field r.word 0 24)) r
  pub value : r.value ≡ (field r.word 0 24 + 2) % 2 ^ 24

-- LDR or STR of a word or a byte by this indexing and offset, whatever the flags are. Neither the base nor the register that is loaded or stored is
-- R15.
pub record Transfers (is_load is_byte : Bool) (way : Indexing) (by : Offset) (r : OpValue) : Type 0 where
  pub does : Does condition.Always (action.Transfer (transfer_in by r.word)) r
  pub loads : bit_of r.word 20 ≡ is_load
  pub bytes : bit_of r.word 22 ≡ is_byte
  pub indexing : indexing_of (bit_of r.word 24) (bit_of r.word 21) ≡ way
  pub rd : r.rd ≡ field r.word 12 4
  pub rd_below : r.rd < 15
  pub rn : r.rn ≡ field r.word 16 4
  pub rn_below : r.rn < 15

-- by a number: the value is added to the base, so for an offset that is taken from it it is as much below 2^32
pub record TransfersByNumber (loads is_byte : Bool) (way : Indexing) (r : OpValue) : Type 0 where
  pub transfers : Transfers loads is_byte way (offset.Immediate (field r.word 0 12)) r
  pub value : r.value ≡ (if bit_of r.word 23 then field r.word 0 12 else (2 ^ 32 - field r.word 0 12) % 2 ^
      32)

-- by a register that is not R15, shifted to the left by the value, and added to the base
pub record TransfersByRegister (loads is_byte : Bool) (way : Indexing) (r : OpValue) : Type 0 where
  pub transfers : Transfers loads is_byte way (offset.Shifted (shifted_in r.word)) r
  pub up : bit_of r.word 23 ≡ true
  pub rm : r.rm ≡ field r.word 0 4
  pub rm_below : r.rm < 15
  pub amount : r.value ≡ field r.word 7 5
  pub below : r.value < 32
  pub shift : shift_of (field r.word 5 2) ≡ shift.LogicalLeft

-- LDR of a word from a number of bytes beside R15, which is read two words ahead
pub record LoadsBeside (r : OpValue) : Type 0 where
  pub does : Does condition.Always (action.Transfer (transfer_in (offset.Immediate (field r.word 0 12))
      r.word)) r
  pub loads : bit_of r.word 20 ≡ true
  pub bytes : bit_of r.word 22 ≡ false
  pub indexing : indexing_of (bit_of r.word 24) (bit_of r.word 21) ≡ indexing.Pre false
  pub base : field r.word 16 4 ≡ 15
  pub rd : r.rd ≡ field r.word 12 4
  pub rd_below : r.rd < 15
  pub value : r.value ≡ (if bit_of r.word 23 then field r.word 0 12 else (2 ^ 32 - field r.word 0 12) % 2 ^
      32)

-- MUL or MLA of registers that are not R15, whatever the flags are
pub record MultipliesPlainly (adds : Bool) (r : OpValue) : Type 0 where
  pub does : Does condition.Always (action.Multiply (multiply_in r.word)) r
  pub accumulates : bit_of r.word 21 ≡ adds
  pub flags : bit_of r.word 20 ≡ false
  pub rd : r.rd ≡ field r.word 12 4
  pub rd_below : r.rd < 15
  pub rn : r.rn ≡ field r.word 16 4
  pub rn_below : r.rn < 15
  pub rm : r.rm ≡ field r.word 0 4
  pub rm_below : r.rm < 15
  pub rs : r.rs ≡ field r.word 8 4
  pub rs_below : r.rs < 15

-- MOV of a register that is not R15, as it is, to R15, with the status or without
pub record MovesToPc (sets : Bool) (r : OpValue) : Type 0 where
  pub does : Does condition.Always (action.Operate (operate_in (operand.Shifted (shifted_in r.word))
      r.word)) r
  pub operation : (operate_in (operand.Shifted (shifted_in r.word)) r.word).operation ≡ operation.Move
  pub flags : bit_of r.word 20 ≡ sets
  pub rd : field r.word 12 4 ≡ 15
  pub rm : r.rm ≡ field r.word 0 4
  pub rm_below : r.rm < 15
  pub amount : field r.word 7 5 ≡ 0
  pub shift : shift_of (field r.word 5 2) ≡ shift.LogicalLeft

-- whether a block's base goes up
abbrev pub goes_up : BlockMode → Bool
goes_up IncrementAfter = true
goes_up IncrementBefore = true
goes_up DecrementAfter = false
goes_up DecrementBefore = false

-- how far above the lower of the base and the base after it the first word lies
abbrev pub gap_below : BlockMode → ℕ
gap_below IncrementAfter = 0
gap_below IncrementBefore = 4
gap_below DecrementAfter = 4
gap_below DecrementBefore = 0

-- LDM or STM of registers of the present mode: the value is the list, which has R15 or not. What is stored has no base that is written back.
pub record MovesBlock (is_load is_up writes has_pc : Bool) (r : OpValue) : Type 0 where
  pub does : Does condition.Always (action.BlockTransfer (block_transfer_in r.word)) r
  pub loads : bit_of r.word 20 ≡ is_load
  pub up : goes_up (block_mode_of (field r.word 23 2)) ≡ is_up
  pub plain : bit_of r.word 22 ≡ false
  pub back : bit_of r.word 21 ≡ writes
  pub rn : r.rn ≡ field r.word 16 4
  pub rn_below : r.rn < 15
  pub list : r.value ≡ field r.word 0 16
  pub pc : bit_of r.value 15 ≡ has_pc
  pub gap : r.rm ≡ gap_below (block_mode_of (field r.word 23 2))
  pub size : r.rs ≡ 4 * length (registers_of_list r.value)
  pub apart : (not is_load && (writes && bit_of r.value r.rn)) ≡ false

abbrev pub KindMeans : OpKind → OpValue → Type 0
KindMeans kind.Slow r = ⊤
KindMeans kind.Conditional r = ⊤
KindMeans kind.Interrupt r = Does condition.Always (action.SoftwareInterrupt (field r.word 0 24)) r
KindMeans kind.Branch r = Branches condition.Always false r
KindMeans kind.Link r = Branches condition.Always true r
KindMeans kind.BranchIfEqual r = Branches condition.Equal false r
KindMeans kind.BranchIfNotEqual r = Branches condition.NotEqual false r
KindMeans kind.BranchIfCarrySet r = Branches condition.CarrySet false r
KindMeans kind.BranchIfCarryClear r = Branches condition.CarryClear false r
KindMeans kind.BranchIfMinus r = Branches condition.Minus false r
KindMeans kind.BranchIfPlus r = Branches condition.Plus false r
KindMeans kind.BranchIfOverflowSet r = Branches condition.OverflowSet false r
KindMeans kind.BranchIfOverflowClear r = Branches condition.OverflowClear false r
KindMeans kind.BranchIfHigher r = Branches condition.Higher false r
KindMeans kind.BranchIfLowerOrSame r = Branches condition.LowerOrSame false r
KindMeans kind.BranchIfGreaterOrEqual r = Branches condition.GreaterOrEqual false r
KindMeans kind.BranchIfLessThan r = Branches condition.LessThan false r
KindMeans kind.BranchIfGreaterThan r = Branches condition.GreaterThan false r
KindMeans kind.BranchIfLessOrEqual r = Branches condition.LessOrEqual false r
KindMeans kind.MoveToPc r = MovesToPc false r
KindMeans kind.MoveToPcS r = MovesToPc true r
KindMeans kind.Multiply r = MultipliesPlainly false r
KindMeans kind.MultiplyAdd r = MultipliesPlainly true r
KindMeans kind.ImmediateAnd r = OperatesByImmediate operation.And false r
KindMeans kind.ImmediateAndS r = OperatesByImmediate operation.And true r
KindMeans kind.ImmediateExclusiveOr r = OperatesByImmediate operation.ExclusiveOr false r
KindMeans kind.ImmediateExclusiveOrS r = OperatesByImmediate operation.ExclusiveOr true r
KindMeans kind.ImmediateSubtract r = OperatesByImmediate operation.Subtract false r
KindMeans kind.ImmediateSubtractS r = OperatesByImmediate operation.Subtract true r
KindMeans kind.ImmediateReverseSubtract r = OperatesByImmediate operation.ReverseSubtract false r
KindMeans kind.ImmediateReverseSubtractS r = OperatesByImmediate operation.ReverseSubtract true r
KindMeans kind.ImmediateAdd r = OperatesByImmediate operation.Add false r
KindMeans kind.ImmediateAddS r = OperatesByImmediate operation.Add true r
KindMeans kind.ImmediateAddWithCarry r = OperatesByImmediate operation.AddWithCarry false r
KindMeans kind.ImmediateAddWithCarryS r = OperatesByImmediate operation.AddWithCarry true r
KindMeans kind.ImmediateSubtractWithCarry r = OperatesByImmediate operation.SubtractWithCarry false r
KindMeans kind.ImmediateSubtractWithCarryS r = OperatesByImmediate operation.SubtractWithCarry true r
KindMeans kind.ImmediateReverseSubtractWithCarry r = OperatesByImmediate operation.ReverseSubtractWithCarry
    false r
KindMeans kind.ImmediateReverseSubtractWithCarryS r = OperatesByImmediate operation.ReverseSubtractWithCarry
    true r
KindMeans kind.ImmediateTestS r = OperatesByImmediate operation.Test true r
KindMeans kind.ImmediateTestEquivalenceS r = OperatesByImmediate operation.TestEquivalence true r
KindMeans kind.ImmediateCompareS r = OperatesByImmediate operation.Compare true r
KindMeans kind.ImmediateCompareNegatedS r = OperatesByImmediate operation.CompareNegated true r
KindMeans kind.ImmediateOr r = OperatesByImmediate operation.Or false r
KindMeans kind.ImmediateOrS r = OperatesByImmediate operation.Or true r
KindMeans kind.ImmediateMove r = OperatesByImmediate operation.Move false r
KindMeans kind.ImmediateMoveS r = OperatesByImmediate operation.Move true r
KindMeans kind.ImmediateBitClear r = OperatesByImmediate operation.BitClear false r
KindMeans kind.ImmediateBitClearS r = OperatesByImmediate operation.BitClear true r
KindMeans kind.ImmediateMoveNot r = OperatesByImmediate operation.MoveNot false r
KindMeans kind.ImmediateMoveNotS r = OperatesByImmediate operation.MoveNot true r
KindMeans kind.RegisterAnd r = OperatesByRegister operation.And false r
KindMeans kind.RegisterAndS r = OperatesByRegister operation.And true r
KindMeans kind.RegisterExclusiveOr r = OperatesByRegister operation.ExclusiveOr false r
KindMeans kind.RegisterExclusiveOrS r = OperatesByRegister operation.ExclusiveOr true r
KindMeans kind.RegisterSubtract r = OperatesByRegister operation.Subtract false r
KindMeans kind.RegisterSubtractS r = OperatesByRegister operation.Subtract true r
KindMeans kind.RegisterReverseSubtract r = OperatesByRegister operation.ReverseSubtract false r
KindMeans kind.RegisterReverseSubtractS r = OperatesByRegister operation.ReverseSubtract true r
KindMeans kind.RegisterAdd r = OperatesByRegister operation.Add false r
KindMeans kind.RegisterAddS r = OperatesByRegister operation.Add true r
KindMeans kind.RegisterAddWithCarry r = OperatesByRegister operation.AddWithCarry false r
KindMeans kind.RegisterAddWithCarryS r = OperatesByRegister operation.AddWithCarry true r
KindMeans kind.RegisterSubtractWithCarry r = OperatesByRegister operation.SubtractWithCarry false r
KindMeans kind.RegisterSubtractWithCarryS r = OperatesByRegister operation.SubtractWithCarry true r
KindMeans kind.RegisterReverseSubtractWithCarry r = OperatesByRegister operation.ReverseSubtractWithCarry
    false r
KindMeans kind.RegisterReverseSubtractWithCarryS r = OperatesByRegister operation.ReverseSubtractWithCarry
    true r
KindMeans kind.RegisterTestS r = OperatesByRegister operation.Test true r
KindMeans kind.RegisterTestEquivalenceS r = OperatesByRegister operation.TestEquivalence true r
KindMeans kind.RegisterCompareS r = OperatesByRegister operation.Compare true r
KindMeans kind.RegisterCompareNegatedS r = OperatesByRegister operation.CompareNegated true r
KindMeans kind.RegisterOr r = OperatesByRegister operation.Or false r
KindMeans kind.RegisterOrS r = OperatesByRegister operation.Or true r
KindMeans kind.RegisterMove r = OperatesByRegister operation.Move false r
KindMeans kind.RegisterMoveS r = OperatesByRegister operation.Move true r
KindMeans kind.RegisterBitClear r = OperatesByRegister operation.BitClear false r
KindMeans kind.RegisterBitClearS r = OperatesByRegister operation.BitClear true r
KindMeans kind.RegisterMoveNot r = OperatesByRegister operation.MoveNot false r
KindMeans kind.RegisterMoveNotS r = OperatesByRegister operation.MoveNot true r
KindMeans kind.ShiftedAnd r = OperatesByShift operation.And false r
KindMeans kind.ShiftedAndS r = OperatesByShift operation.And true r
KindMeans kind.ShiftedExclusiveOr r = OperatesByShift operation.ExclusiveOr false r
KindMeans kind.ShiftedExclusiveOrS r = OperatesByShift operation.ExclusiveOr true r
KindMeans kind.ShiftedSubtract r = OperatesByShift operation.Subtract false r
KindMeans kind.ShiftedSubtractS r = OperatesByShift operation.Subtract true r
KindMeans kind.ShiftedReverseSubtract r = OperatesByShift operation.ReverseSubtract false r
KindMeans kind.ShiftedReverseSubtractS r = OperatesByShift operation.ReverseSubtract true r
KindMeans kind.ShiftedAdd r = OperatesByShift operation.Add false r
KindMeans kind.ShiftedAddS r = OperatesByShift operation.Add true r
KindMeans kind.ShiftedAddWithCarry r = OperatesByShift operation.AddWithCarry false r
KindMeans kind.ShiftedAddWithCarryS r = OperatesByShift operation.AddWithCarry true r
KindMeans kind.ShiftedSubtractWithCarry r = OperatesByShift operation.SubtractWithCarry false r
KindMeans kind.ShiftedSubtractWithCarryS r = OperatesByShift operation.SubtractWithCarry true r
KindMeans kind.ShiftedReverseSubtractWithCarry r = OperatesByShift operation.ReverseSubtractWithCarry false r
KindMeans kind.ShiftedReverseSubtractWithCarryS r = OperatesByShift operation.ReverseSubtractWithCarry true r
KindMeans kind.ShiftedTestS r = OperatesByShift operation.Test true r
KindMeans kind.ShiftedTestEquivalenceS r = OperatesByShift operation.TestEquivalence true r
KindMeans kind.ShiftedCompareS r = OperatesByShift operation.Compare true r
KindMeans kind.ShiftedCompareNegatedS r = OperatesByShift operation.CompareNegated true r
KindMeans kind.ShiftedOr r = OperatesByShift operation.Or false r
KindMeans kind.ShiftedOrS r = OperatesByShift operation.Or true r
KindMeans kind.ShiftedMove r = OperatesByShift operation.Move false r
KindMeans kind.ShiftedMoveS r = OperatesByShift operation.Move true r
KindMeans kind.ShiftedBitClear r = OperatesByShift operation.BitClear false r
KindMeans kind.ShiftedBitClearS r = OperatesByShift operation.BitClear true r
KindMeans kind.ShiftedMoveNot r = OperatesByShift operation.MoveNot false r
KindMeans kind.ShiftedMoveNotS r = OperatesByShift operation.MoveNot true r
KindMeans kind.StoreWordPreBy r = TransfersByNumber false false (indexing.Pre false) r
KindMeans kind.StoreBytePreBy r = TransfersByNumber false true (indexing.Pre false) r
KindMeans kind.LoadWordPreBy r = TransfersByNumber true false (indexing.Pre false) r
KindMeans kind.LoadBytePreBy r = TransfersByNumber true true (indexing.Pre false) r
KindMeans kind.StoreWordPreBackBy r = TransfersByNumber false false (indexing.Pre true) r
KindMeans kind.StoreBytePreBackBy r = TransfersByNumber false true (indexing.Pre true) r
KindMeans kind.LoadWordPreBackBy r = TransfersByNumber true false (indexing.Pre true) r
KindMeans kind.LoadBytePreBackBy r = TransfersByNumber true true (indexing.Pre true) r
KindMeans kind.StoreWordPostBy r = TransfersByNumber false false (indexing.Post false) r
KindMeans kind.StoreBytePostBy r = TransfersByNumber false true (indexing.Post false) r
KindMeans kind.LoadWordPostBy r = TransfersByNumber true false (indexing.Post false) r
KindMeans kind.LoadBytePostBy r = TransfersByNumber true true (indexing.Post false) r
KindMeans kind.StoreWordPreByRegister r = TransfersByRegister false false (indexing.Pre false) r
KindMeans kind.StoreBytePreByRegister r = TransfersByRegister false true (indexing.Pre false) r
KindMeans kind.LoadWordPreByRegister r = TransfersByRegister true false (indexing.Pre false) r
KindMeans kind.LoadBytePreByRegister r = TransfersByRegister true true (indexing.Pre false) r
KindMeans kind.StoreWordPreBackByRegister r = TransfersByRegister false false (indexing.Pre true) r
KindMeans kind.StoreBytePreBackByRegister r = TransfersByRegister false true (indexing.Pre true) r
KindMeans kind.LoadWordPreBackByRegister r = TransfersByRegister true false (indexing.Pre true) r
KindMeans kind.LoadBytePreBackByRegister r = TransfersByRegister true true (indexing.Pre true) r
KindMeans kind.StoreWordPostByRegister r = TransfersByRegister false false (indexing.Post false) r
KindMeans kind.StoreBytePostByRegister r = TransfersByRegister false true (indexing.Post false) r
KindMeans kind.LoadWordPostByRegister r = TransfersByRegister true false (indexing.Post false) r
KindMeans kind.LoadBytePostByRegister r = TransfersByRegister true true (indexing.Post false) r
KindMeans kind.LoadBeside r = LoadsBeside r
KindMeans kind.StoreDown r = MovesBlock false false false false r
KindMeans kind.StoreDownBack r = MovesBlock false false true false r
KindMeans kind.StoreUp r = MovesBlock false true false false r
KindMeans kind.StoreUpBack r = MovesBlock false true true false r
KindMeans kind.LoadDown r = MovesBlock true false false false r
KindMeans kind.LoadDownBack r = MovesBlock true false true false r
KindMeans kind.LoadUp r = MovesBlock true true false false r
KindMeans kind.LoadUpBack r = MovesBlock true true true false r
KindMeans kind.LoadUpWithPc r = MovesBlock true true false true r
KindMeans kind.LoadUpBackWithPc r = MovesBlock true true true true r

-- what is always so of an op
abbrev pub Means : OpValue → Type 0
Means r = KindMeans r.kind r
