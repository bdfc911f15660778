-- The words of an instruction (ARM2 data sheet, "Assembler syntax" of each instruction).
use Rattle.std.specs.Prelude.{ℕ, Bool, true, false, ◌+◌, ◌==◌, nat_lt, List, [], ◌∷◌, codes, if◌then◌else◌}
use Rattle.arm_decode.specs.declared.address.BlockMode.{BlockMode}
use Rattle.arm_decode.specs.declared.address.BlockMode.TheVariants.{DecrementAfter, IncrementAfter, DecrementBefore, IncrementBefore}
use Rattle.arm_decode.specs.declared.condition.Condition.{Condition}
use Rattle.arm_decode.specs.declared.condition.Condition.TheVariants as condition
use Rattle.arm_decode.specs.declared.operation.Operation.{Operation}
use Rattle.arm_decode.specs.declared.operation.Operation.TheVariants as operation
use Rattle.arm_decode.specs.declared.shift.Shift.{Shift}
use Rattle.arm_decode.specs.declared.shift.Shift.TheVariants as shift

-- AL isn't printed
abbrev pub condition_text : Condition → List ℕ
condition_text condition.Equal = codes "EQ"
condition_text condition.NotEqual = codes "NE"
condition_text condition.CarrySet = codes "CS"
condition_text condition.CarryClear = codes "CC"
condition_text condition.Minus = codes "MI"
condition_text condition.Plus = codes "PL"
condition_text condition.OverflowSet = codes "VS"
condition_text condition.OverflowClear = codes "VC"
condition_text condition.Higher = codes "HI"
condition_text condition.LowerOrSame = codes "LS"
condition_text condition.GreaterOrEqual = codes "GE"
condition_text condition.LessThan = codes "LT"
condition_text condition.GreaterThan = codes "GT"
condition_text condition.LessOrEqual = codes "LE"
condition_text condition.Always = []
condition_text condition.Never = codes "NV"

abbrev pub operation_text : Operation → List ℕ
operation_text operation.And = codes "AND"
operation_text operation.ExclusiveOr = codes "EOR"
operation_text operation.Subtract = codes "SUB"
operation_text operation.ReverseSubtract = codes "RSB"
operation_text operation.Add = codes "ADD"
operation_text operation.AddWithCarry = codes "ADC"
operation_text operation.SubtractWithCarry = codes "SBC"
operation_text operation.ReverseSubtractWithCarry = codes "RSC"
operation_text operation.Test = codes "TST"
operation_text operation.TestEquivalence = codes "TEQ"
operation_text operation.Compare = codes "CMP"
operation_text operation.CompareNegated = codes "CMN"
operation_text operation.Or = codes "ORR"
operation_text operation.Move = codes "MOV"
operation_text operation.BitClear = codes "BIC"
operation_text operation.MoveNot = codes "MVN"

abbrev pub shift_text : Shift → List ℕ
shift_text shift.LogicalLeft = codes "LSL"
shift_text shift.LogicalRight = codes "LSR"
shift_text shift.ArithmeticRight = codes "ASR"
shift_text shift.RotateRight = codes "ROR"

abbrev pub block_mode_text : BlockMode → List ℕ
block_mode_text DecrementAfter = codes "DA"
block_mode_text IncrementAfter = codes "IA"
block_mode_text DecrementBefore = codes "DB"
block_mode_text IncrementBefore = codes "IB"

-- R0 to R14, and PC for R15
abbrev pub register_text : ℕ → List ℕ
register_text n = if n == 15 then 80 ∷ 67 ∷ [] else (if nat_lt n 10 then 82 ∷ (n + 48) ∷ []
    else 82 ∷ 49 ∷ (n + 38) ∷ [])

-- the first word or the second
abbrev pub choose_text : Bool → List ℕ → List ℕ → List ℕ
choose_text true first second = first
choose_text false first second = second

-- a word that is there or not
abbrev pub text_if : Bool → List ℕ → List ℕ
text_if is_there text = choose_text is_there text []
