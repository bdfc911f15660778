-- Codes and names: each code names what it came from, and is its name's.
use Rattle.std.proofs.Common.{◌≡◌, ℕ, ◌<◌, Bool, true, false, refl, arith, lit<}
use Rattle.arm_decode.specs.Names.{condition_of, condition_code, operation_of, operation_code, shift_of, shift_code, block_mode_of, block_mode_code, direction_of, is_up, indexing_of, is_pre_indexed, has_w}
use Rattle.arm_decode.specs.declared.address.BlockMode.{BlockMode}
use Rattle.arm_decode.specs.declared.address.BlockMode.TheVariants as mode
use Rattle.arm_decode.specs.declared.address.Direction.{Direction}
use Rattle.arm_decode.specs.declared.address.Direction.TheVariants.{Down, Up}
use Rattle.arm_decode.specs.declared.address.Indexing.{Indexing}
use Rattle.arm_decode.specs.declared.address.Indexing.TheVariants.{Post, Pre}
use Rattle.arm_decode.specs.declared.condition.Condition.{Condition}
use Rattle.arm_decode.specs.declared.condition.Condition.TheVariants as condition
use Rattle.arm_decode.specs.declared.operation.Operation.{Operation}
use Rattle.arm_decode.specs.declared.operation.Operation.TheVariants as operation
use Rattle.arm_decode.specs.declared.shift.Shift.{Shift}
use Rattle.arm_decode.specs.declared.shift.Shift.TheVariants as shift

-- conditions
pub condition_of-code : (x : Condition) → condition_of (condition_code x) ≡ x
condition_of-code condition.Equal = refl
condition_of-code condition.NotEqual = refl
condition_of-code condition.CarrySet = refl
condition_of-code condition.CarryClear = refl
condition_of-code condition.Minus = refl
condition_of-code condition.Plus = refl
condition_of-code condition.OverflowSet = refl
condition_of-code condition.OverflowClear = refl
condition_of-code condition.Higher = refl
condition_of-code condition.LowerOrSame = refl
condition_of-code condition.GreaterOrEqual = refl
condition_of-code condition.LessThan = refl
condition_of-code condition.GreaterThan = refl
condition_of-code condition.LessOrEqual = refl
condition_of-code condition.Always = refl
condition_of-code condition.Never = refl

pub condition_code-of : (n : ℕ) → n < 16 → condition_code (condition_of n) ≡ n
condition_code-of n h = grind arith

pub condition_code-lt : (x : Condition) → condition_code x < 16
condition_code-lt condition.Equal = lit< tt
condition_code-lt condition.NotEqual = lit< tt
condition_code-lt condition.CarrySet = lit< tt
condition_code-lt condition.CarryClear = lit< tt
condition_code-lt condition.Minus = lit< tt
condition_code-lt condition.Plus = lit< tt
condition_code-lt condition.OverflowSet = lit< tt
condition_code-lt condition.OverflowClear = lit< tt
condition_code-lt condition.Higher = lit< tt
condition_code-lt condition.LowerOrSame = lit< tt
condition_code-lt condition.GreaterOrEqual = lit< tt
condition_code-lt condition.LessThan = lit< tt
condition_code-lt condition.GreaterThan = lit< tt
condition_code-lt condition.LessOrEqual = lit< tt
condition_code-lt condition.Always = lit< tt
condition_code-lt condition.Never = lit< tt

-- operations
pub operation_of-code : (x : Operation) → operation_of (operation_code x) ≡ x
operation_of-code operation.And = refl
operation_of-code operation.ExclusiveOr = refl
operation_of-code operation.Subtract = refl
operation_of-code operation.ReverseSubtract = refl
operation_of-code operation.Add = refl
operation_of-code operation.AddWithCarry = refl
operation_of-code operation.SubtractWithCarry = refl
operation_of-code operation.ReverseSubtractWithCarry = refl
operation_of-code operation.Test = refl
operation_of-code operation.TestEquivalence = refl
operation_of-code operation.Compare = refl
operation_of-code operation.CompareNegated = refl
operation_of-code operation.Or = refl
operation_of-code operation.Move = refl
operation_of-code operation.BitClear = refl
operation_of-code operation.MoveNot = refl

pub operation_code-of : (n : ℕ) → n < 16 → operation_code (operation_of n) ≡ n
operation_code-of n h = grind arith

pub operation_code-lt : (x : Operation) → operation_code x < 16
operation_code-lt operation.And = lit< tt
operation_code-lt operation.ExclusiveOr = lit< tt
operation_code-lt operation.Subtract = lit< tt
operation_code-lt operation.ReverseSubtract = lit< tt
operation_code-lt operation.Add = lit< tt
operation_code-lt operation.AddWithCarry = lit< tt
operation_code-lt operation.SubtractWithCarry = lit< tt
operation_code-lt operation.ReverseSubtractWithCarry = lit< tt
operation_code-lt operation.Test = lit< tt
operation_code-lt operation.TestEquivalence = lit< tt
operation_code-lt operation.Compare = lit< tt
operation_code-lt operation.CompareNegated = lit< tt
operation_code-lt operation.Or = lit< tt
operation_code-lt operation.Move = lit< tt
operation_code-lt operation.BitClear = lit< tt
operation_code-lt operation.MoveNot = lit< tt

-- shifts
pub shift_of-code : (x : Shift) → shift_of (shift_code x) ≡ x
shift_of-code shift.LogicalLeft = refl
shift_of-code shift.LogicalRight = refl
shift_of-code shift.ArithmeticRight = refl
shift_of-code shift.RotateRight = refl

pub shift_code-of : (n : ℕ) → n < 4 → shift_code (shift_of n) ≡ n
shift_code-of n h = grind arith

pub shift_code-lt : (x : Shift) → shift_code x < 4
shift_code-lt shift.LogicalLeft = lit< tt
shift_code-lt shift.LogicalRight = lit< tt
shift_code-lt shift.ArithmeticRight = lit< tt
shift_code-lt shift.RotateRight = lit< tt

-- block modes
pub block_mode_of-code : (x : BlockMode) → block_mode_of (block_mode_code x) ≡ x
block_mode_of-code mode.DecrementAfter = refl
block_mode_of-code mode.IncrementAfter = refl
block_mode_of-code mode.DecrementBefore = refl
block_mode_of-code mode.IncrementBefore = refl

pub block_mode_code-of : (n : ℕ) → n < 4 → block_mode_code (block_mode_of n) ≡ n
block_mode_code-of n h = grind arith

pub block_mode_code-lt : (x : BlockMode) → block_mode_code x < 4
block_mode_code-lt mode.DecrementAfter = lit< tt
block_mode_code-lt mode.IncrementAfter = lit< tt
block_mode_code-lt mode.DecrementBefore = lit< tt
block_mode_code-lt mode.IncrementBefore = lit< tt

pub direction_of-is_up : (d : Direction) → direction_of (is_up d) ≡ d
direction_of-is_up Up = refl
direction_of-is_up Down = refl

pub indexing_of-bits : (i : Indexing) → indexing_of (is_pre_indexed i) (has_w i) ≡ i
indexing_of-bits (Pre w) = refl
indexing_of-bits (Post w) = refl

pub is_up-direction_of : (u : Bool) → is_up (direction_of u) ≡ u
is_up-direction_of true = refl
is_up-direction_of false = refl

pub is_pre_indexed-indexing_of : (p w : Bool) → is_pre_indexed (indexing_of p w) ≡ p
is_pre_indexed-indexing_of true w = refl
is_pre_indexed-indexing_of false w = refl

pub has_w-indexing_of : (p w : Bool) → has_w (indexing_of p w) ≡ w
has_w-indexing_of true w = refl
has_w-indexing_of false w = refl
