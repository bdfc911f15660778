-- The second operand of data processing (ARM2 data sheet, "Shifts", "Immediate operand rotates"): a value and the carry of the shifter.
use Rattle.std.specs.Prelude.{ℕ, Bool, ◌*◌, ◌%◌, ◌==◌, if◌then◌else◌}
use Rattle.arm_decode.specs.Shifted.{shifted_left, shifted_right, shifted_signed, rotation_of, rotated_through}
use Rattle.arm_decode.specs.declared.shifted.Shifted.{Shifted}
use Rattle.arm_decode.specs.declared.shift.Shift.{Shift}
use Rattle.arm_decode.specs.declared.shift.Shift.TheVariants as shift
use Rattle.arm_decode.specs.declared.shift.ShiftedRegister.{ShiftedRegister}
use Rattle.arm_decode.specs.declared.operand.Operand.{Operand}
use Rattle.arm_decode.specs.declared.operand.Operand.TheVariants as operand
use Rattle.arm_core.specs.State.{State}
use Rattle.arm_core.specs.Effect.{plain_operand, status_operand}

-- no shift: the value and C as they are
abbrev pub unshifted_value : ℕ → Bool → Shifted
unshifted_value x c = record { value = x; carry = c }

-- a shift by an amount of at least 1
abbrev pub shifted_value : Shift → ℕ → ℕ → Shifted
shifted_value shift.LogicalLeft x n = shifted_left x n
shifted_value shift.LogicalRight x n = shifted_right x n
shifted_value shift.ArithmeticRight x n = shifted_signed x n
shifted_value shift.RotateRight x n = rotation_of x n

-- a shift by the number in the instruction: 0 is no shift for LSL, 32 for LSR and ASR, and RRX for ROR
abbrev pub shifted_by_zero : Shift → ℕ → Bool → Shifted
shifted_by_zero shift.LogicalLeft x c = unshifted_value x c
shifted_by_zero shift.LogicalRight x c = shifted_right x 32
shifted_by_zero shift.ArithmeticRight x c = shifted_signed x 32
shifted_by_zero shift.RotateRight x c = rotated_through x c

abbrev pub shifted_by_number : Shift → ℕ → ℕ → Bool → Shifted
shifted_by_number kind x n c = if n == 0 then shifted_by_zero kind x c else shifted_value kind x n

-- a shift by the low byte of a register: 0 keeps value and C
abbrev pub shifted_by_byte : Shift → ℕ → ℕ → Bool → Shifted
shifted_by_byte kind x n c = if n == 0 then unshifted_value x c else shifted_value kind x n

-- a byte rotated right by twice the field; a rotation of 0 keeps C
abbrev pub rotated_immediate : ℕ → ℕ → Bool → Shifted
rotated_immediate rotation byte c = if rotation == 0 then unshifted_value byte c
    else rotation_of byte (2 * rotation)

-- R15 is two words ahead of the instruction, three where a register gives the amount of a shift
abbrev pub words_ahead : Operand → ℕ
words_ahead (operand.Immediate rotation byte) = 2
words_ahead (operand.Shifted r) = 2
words_ahead (operand.ShiftedByRegister rm kind rs) = 3

abbrev pub shifted_register : State → ShiftedRegister → Shifted
shifted_register s r = shifted_by_number r.shift (status_operand s.psr.mode s r.rm 2) r.amount s.psr.carry

abbrev pub operand_of : State → Operand → Shifted
operand_of s (operand.Immediate rotation byte) = rotated_immediate rotation byte s.psr.carry
operand_of s (operand.Shifted r) = shifted_register s r
operand_of s (operand.ShiftedByRegister rm kind rs) = shifted_by_byte kind (status_operand s.psr.mode s rm 3)
    (plain_operand s rs 3 % 256) s.psr.carry
