-- The operands of data processing as text (ARM2 data sheet, "Data processing", "Assembler syntax").
use Rattle.std.specs.Prelude.{ℕ, ◌==◌, List, [], ◌++◌, codes, decimal, if◌then◌else◌}
use Rattle.arm_decode.specs.declared.operand.Operand.{Operand}
use Rattle.arm_decode.specs.declared.operand.Operand.TheVariants as operand
use Rattle.arm_decode.specs.declared.shift.Shift.{Shift}
use Rattle.arm_decode.specs.declared.shift.Shift.TheVariants as shift
use Rattle.arm_decode.specs.declared.shift.ShiftedRegister.{ShiftedRegister}
use Rattle.assembler_text.specs.Names.{shift_text, register_text}
use Rattle.assembler_text.specs.Numbers.{immediate_text}

-- `,LSL #n`
abbrev pub amount_text : Shift → ℕ → List ℕ
amount_text s n = codes "," ++ (shift_text s ++ (codes " #" ++ decimal n))

-- What follows a register that is shifted by the number in the instruction, of which 0 means no
-- shift, 32, 32, and RRX.
abbrev pub shifting_text : Shift → ℕ → List ℕ
shifting_text shift.LogicalLeft n = if n == 0 then [] else amount_text shift.LogicalLeft n
shifting_text shift.LogicalRight n = amount_text shift.LogicalRight (if n == 0 then 32 else n)
shifting_text shift.ArithmeticRight n = amount_text shift.ArithmeticRight (if n == 0 then 32 else n)
shifting_text shift.RotateRight n = if n == 0 then codes ",RRX" else amount_text shift.RotateRight n

abbrev pub shifted_text : ShiftedRegister → List ℕ
shifted_text s = register_text s.rm ++ shifting_text s.shift s.amount

-- `Rm,LSL Rs`
abbrev pub by_register_text : ℕ → Shift → ℕ → List ℕ
by_register_text rm s rs = register_text rm ++ (codes ","
    ++ (shift_text s ++ (codes " " ++ register_text rs)))

abbrev pub operand_text : Operand → List ℕ
operand_text (operand.Immediate rotation byte) = immediate_text rotation byte
operand_text (operand.Shifted s) = shifted_text s
operand_text (operand.ShiftedByRegister rm s rs) = by_register_text rm s rs
