-- The second operand of data processing as it is written (ARM2 data sheet, "Data processing",
-- "Assembler syntax"). A reader answers what it read, or the reason why that has no form, and what
-- follows it.
use Rattle.std.specs.Prelude.{ℕ, Bool, ◌/◌, ◌%◌, ◌==◌, ◌&&◌, nat_le, List, codes, Option, Some, None, Result, Ok, Err, if◌then◌else◌}
use Rattle.arm_decode.specs.declared.operand.Operand.{Operand}
use Rattle.arm_decode.specs.declared.operand.Operand.TheVariants as operand
use Rattle.arm_decode.specs.declared.shift.Shift.{Shift}
use Rattle.arm_decode.specs.declared.shift.Shift.TheVariants.{LogicalLeft, LogicalRight, ArithmeticRight, RotateRight}
use Rattle.arm_decode.specs.declared.shift.ShiftedRegister.{ShiftedRegister}
use Rattle.assembler_text.specs.Numbers.{least_rotation, rotated_back}
use Rattle.assembler_text.specs.naming.Expressions.{Lookup, Value, expression}
use Rattle.assembler_text.specs.naming.Names.{register, shift_named}
use Rattle.assembler_text.specs.naming.Words.{after_word, byte, comma, is_same_name, spaces, word, ◌>>=◌}
use Rattle.assembler_text.specs.declared.naming.reason.Reason.{Reason}
use Rattle.assembler_text.specs.declared.naming.reason.Reason.TheVariants.{UnknownLabel, BadImmediate}

-- what a piece of the operands stands for, or why there is none
abbrev pub ReadOutcome : Type 0 → Type 0
ReadOutcome A = Result A Reason

abbrev pub by_rotation : ℕ → Option ℕ → ReadOutcome Operand
by_rotation value (Some rotation) = Ok (operand.Immediate rotation (rotated_back value rotation))
by_rotation value None = Err BadImmediate

-- `#v` is spelled by its least rotation
abbrev pub immediate_of : Value → ReadOutcome Operand
immediate_of None = Err UnknownLabel
immediate_of (Some value) = by_rotation value (least_rotation value)

-- `#b,r` is spelled as it stands: a byte, and an even number up to 30
abbrev pub is_rotated_byte : ℕ → ℕ → Bool
is_rotated_byte b r = nat_le b 255 && (nat_le r 30 && (r % 2 == 0))

abbrev pub rotated_of : Value → Value → ReadOutcome Operand
rotated_of (Some b) (Some r) = if is_rotated_byte b r then Ok (operand.Immediate (r / 2) b)
    else Err BadImmediate
rotated_of _ _ = Err UnknownLabel

-- what stands after a value: a comma and the rotation, or nothing
abbrev pub rotation_at : Lookup → Value → List ℕ → Option (List ℕ) → Option (ReadOutcome Operand × List ℕ)
rotation_at labels value text None = Some (immediate_of value, text)
rotation_at labels value text (Some after) = do
  turns ← expression labels after
  Some (rotated_of value turns.0, turns.1)

-- what follows `#`
abbrev pub immediate_operand : Lookup → List ℕ → Option (ReadOutcome Operand × List ℕ)
immediate_operand labels text = do
  value ← expression labels text
  rotation_at labels value.0 value.1 (comma value.1)

abbrev pub register_shifted_by : ℕ → Shift → ℕ → ShiftedRegister
register_shifted_by register_number kind number = record
    { rm = register_number; shift = kind; amount = number }

-- LSL and ROR are by 1 to 31, LSR and ASR by 1 to 32, which stands as 0
abbrev pub most_places : Shift → ℕ
most_places LogicalLeft = 31
most_places LogicalRight = 32
most_places ArithmeticRight = 32
most_places RotateRight = 31

abbrev pub places_of : ℕ → Shift → Value → ReadOutcome Operand
places_of rm s None = Err UnknownLabel
places_of rm s (Some n) =
    if nat_le 1 n && nat_le n (most_places s) then Ok (operand.Shifted (register_shifted_by rm s (n % 32)))
    else Err BadImmediate

-- `#n` or a register, after `Rm,LSL `
abbrev pub amount_at : Lookup → ℕ → Shift → List ℕ → Option (List ℕ) → Option (ReadOutcome Operand × List ℕ)
amount_at labels rm s text (Some after) = do
  places ← expression labels after
  Some (places_of rm s places.0, places.1)
amount_at labels rm s text None = do
  by ← register text
  Some (Ok (operand.ShiftedByRegister rm s by.0), by.1)

-- a shift and its amount
abbrev pub named_shift : Lookup → ℕ → List ℕ → Option (ReadOutcome Operand × List ℕ)
named_shift labels rm text = do
  s ← shift_named (word text)
  amount ← spaces (after_word text)
  amount_at labels rm s amount (byte 35 amount)

-- what follows `Rm`: nothing, or a comma and RRX or a shift
abbrev pub shift_at : Lookup → ℕ → List ℕ → Option (List ℕ) → Option (ReadOutcome Operand × List ℕ)
shift_at labels rm text None = Some (Ok (operand.Shifted (register_shifted_by rm LogicalLeft 0)), text)
shift_at labels rm text (Some after) =
    if is_same_name (word after) (codes "RRX")
    then Some (Ok (operand.Shifted (register_shifted_by rm RotateRight 0)), after_word after)
    else named_shift labels rm after

-- `Rm`, `Rm,LSL #n`, `Rm,LSL Rs`, `Rm,RRX`
unfoldable pub shifted_operand : Lookup → List ℕ → Option (ReadOutcome Operand × List ℕ)
shifted_operand labels text = do
  rm ← register text
  shift_at labels rm.0 rm.1 (comma rm.1)

-- a number after `#`, or a register
abbrev pub operand_at : Lookup → List ℕ → Option (List ℕ) → Option (ReadOutcome Operand × List ℕ)
operand_at labels text (Some after) = immediate_operand labels after
operand_at labels text None = shifted_operand labels text

unfoldable pub second_operand : Lookup → List ℕ → Option (ReadOutcome Operand × List ℕ)
second_operand labels text = operand_at labels text (byte 35 text)
