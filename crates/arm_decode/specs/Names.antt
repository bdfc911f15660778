-- The numbers by which an instruction names a condition, an operation, a shift, a way of indexing
-- (ARM2 data sheet).
use Rattle.std.specs.Prelude.{ℕ, Bool, true, false, List, [], ◌∷◌, slice_index_or}
use Rattle.arm_decode.specs.declared.address.BlockMode.{BlockMode}
use Rattle.arm_decode.specs.declared.address.BlockMode.TheVariants.{DecrementAfter, IncrementAfter, DecrementBefore, IncrementBefore}
use Rattle.arm_decode.specs.declared.address.Direction.{Direction}
use Rattle.arm_decode.specs.declared.address.Direction.TheVariants.{Down, Up}
use Rattle.arm_decode.specs.declared.address.Indexing.{Indexing}
use Rattle.arm_decode.specs.declared.address.Indexing.TheVariants.{Post, Pre}
use Rattle.arm_decode.specs.declared.condition.Condition.{Condition}
use Rattle.arm_decode.specs.declared.condition.Condition.TheVariants as condition
use Rattle.arm_decode.specs.declared.operation.Operation.{Operation}
use Rattle.arm_decode.specs.declared.operation.Operation.TheVariants as operation
use Rattle.arm_decode.specs.declared.shift.Shift.{Shift}
use Rattle.arm_decode.specs.declared.shift.Shift.TheVariants as shift

-- EQ NE CS CC MI PL VS VC HI LS GE LT GT LE AL NV
abbrev pub conditions : List Condition
conditions =
    condition.Equal ∷ condition.NotEqual ∷ condition.CarrySet ∷ condition.CarryClear
    ∷ condition.Minus ∷ condition.Plus ∷ condition.OverflowSet ∷ condition.OverflowClear
    ∷ condition.Higher ∷ condition.LowerOrSame ∷ condition.GreaterOrEqual ∷ condition.LessThan
    ∷ condition.GreaterThan ∷ condition.LessOrEqual ∷ condition.Always ∷ condition.Never ∷ []

abbrev pub condition_of : ℕ → Condition
condition_of code = slice_index_or conditions code condition.Never

abbrev pub condition_code : Condition → ℕ
condition_code condition.Equal = 0
condition_code condition.NotEqual = 1
condition_code condition.CarrySet = 2
condition_code condition.CarryClear = 3
condition_code condition.Minus = 4
condition_code condition.Plus = 5
condition_code condition.OverflowSet = 6
condition_code condition.OverflowClear = 7
condition_code condition.Higher = 8
condition_code condition.LowerOrSame = 9
condition_code condition.GreaterOrEqual = 10
condition_code condition.LessThan = 11
condition_code condition.GreaterThan = 12
condition_code condition.LessOrEqual = 13
condition_code condition.Always = 14
condition_code condition.Never = 15

-- AND EOR SUB RSB ADD ADC SBC RSC TST TEQ CMP CMN ORR MOV BIC MVN
abbrev pub operations : List Operation
operations =
    operation.And ∷ operation.ExclusiveOr ∷ operation.Subtract ∷ operation.ReverseSubtract
    ∷ operation.Add ∷ operation.AddWithCarry ∷ operation.SubtractWithCarry
    ∷ operation.ReverseSubtractWithCarry
    ∷ operation.Test ∷ operation.TestEquivalence ∷ operation.Compare ∷ operation.CompareNegated
    ∷ operation.Or ∷ operation.Move ∷ operation.BitClear ∷ operation.MoveNot ∷ []

abbrev pub operation_of : ℕ → Operation
operation_of code = slice_index_or operations code operation.MoveNot

abbrev pub operation_code : Operation → ℕ
operation_code operation.And = 0
operation_code operation.ExclusiveOr = 1
operation_code operation.Subtract = 2
operation_code operation.ReverseSubtract = 3
operation_code operation.Add = 4
operation_code operation.AddWithCarry = 5
operation_code operation.SubtractWithCarry = 6
operation_code operation.ReverseSubtractWithCarry = 7
operation_code operation.Test = 8
operation_code operation.TestEquivalence = 9
operation_code operation.Compare = 10
operation_code operation.CompareNegated = 11
operation_code operation.Or = 12
operation_code operation.Move = 13
operation_code operation.BitClear = 14
operation_code operation.MoveNot = 15

-- LSL LSR ASR ROR
abbrev pub shifts : List Shift
shifts = shift.LogicalLeft ∷ shift.LogicalRight ∷ shift.ArithmeticRight ∷ shift.RotateRight ∷ []

abbrev pub shift_of : ℕ → Shift
shift_of code = slice_index_or shifts code shift.RotateRight

abbrev pub shift_code : Shift → ℕ
shift_code shift.LogicalLeft = 0
shift_code shift.LogicalRight = 1
shift_code shift.ArithmeticRight = 2
shift_code shift.RotateRight = 3

-- bits P and U of a block transfer, as a number: DA IA DB IB
abbrev pub block_modes : List BlockMode
block_modes = DecrementAfter ∷ IncrementAfter ∷ DecrementBefore ∷ IncrementBefore ∷ []

abbrev pub block_mode_of : ℕ → BlockMode
block_mode_of code = slice_index_or block_modes code IncrementBefore

abbrev pub block_mode_code : BlockMode → ℕ
block_mode_code DecrementAfter = 0
block_mode_code IncrementAfter = 1
block_mode_code DecrementBefore = 2
block_mode_code IncrementBefore = 3

-- bit U
abbrev pub direction_of : Bool → Direction
direction_of true = Up
direction_of false = Down

abbrev pub is_up : Direction → Bool
is_up Up = true
is_up Down = false

-- bits P and W
abbrev pub indexing_of : Bool → Bool → Indexing
indexing_of true w = Pre w
indexing_of false w = Post w

abbrev pub is_pre_indexed : Indexing → Bool
is_pre_indexed (Pre writes_back) = true
is_pre_indexed (Post translates) = false

abbrev pub has_w : Indexing → Bool
has_w (Pre writes_back) = writes_back
has_w (Post translates) = translates
