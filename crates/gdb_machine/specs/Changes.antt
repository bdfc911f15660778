-- What a value of one of GDB's registers changes: none where the register can't have that value. R15
-- as one word is not set so: its parts are the program counter and the status.
use Rattle.std.specs.Prelude.{◌≡◌, ◌<◌, ◌≤◌, ℕ, ◌%◌, ◌^◌, ◌==◌, ◌&&◌, nat_lt, Option, Some, None, if◌then◌else◌}
use Rattle.profile.specs.Word.{bit_of}
use Rattle.arm_core.specs.declared.psr.Mode.{Mode}
use Rattle.arm_core.specs.declared.psr.Psr.{Psr}
use Rattle.arm_core.specs.Psr.{mode_of}
use Rattle.arm_core.specs.State.{State, with_psr, with_register, with_register_in}
use Rattle.gdb_machine.specs.declared.changes.RegisterWrite.{RegisterWrite}
use Rattle.gdb_machine.specs.declared.changes.RegisterWrite.TheVariants as change
use Rattle.gdb_machine.specs.Registers.{register_bank, status_word}

-- the status in a word
abbrev pub status_in : ℕ → Psr
status_in word = record {
  negative = bit_of word 31;
  zero = bit_of word 30;
  carry = bit_of word 29;
  overflow = bit_of word 28;
  interrupts_off = bit_of word 7;
  fast_interrupts_off = bit_of word 6;
  mode = mode_of word;
}

-- a word with a bit that is none of the status's can't be it
abbrev pub status_change : ℕ → Option RegisterWrite
status_change word =
    if status_word (status_in word) == word then Some (change.Status (status_in word)) else None

-- the program counter is a multiple of 4 below 2^26
abbrev pub place_change : ℕ → Option RegisterWrite
place_change address =
    if address % 4 == 0 && nat_lt address (2 ^ 26) then Some (change.Place address) else None

abbrev pub bank_change : Option (Mode × ℕ) → ℕ → Option RegisterWrite
bank_change None value = None
bank_change (Some bank) value = Some (change.Banked bank.0 bank.1 value)

abbrev pub register_write : ℕ → ℕ → Option RegisterWrite
register_write n value =
    if nat_lt n 15 then Some (change.Present n value) else (
    if n == 15 then place_change value else (
    if n == 16 then status_change value else bank_change (register_bank n) value))

-- each of them can be made
abbrev pub CanBeMade : RegisterWrite → Type 0
CanBeMade (change.Present n value) = n ≤ 14
CanBeMade (change.Place address) = (address % 4 ≡ 0) × (address < 2 ^ 26)
CanBeMade (change.Status status) = Unit {0}
CanBeMade (change.Banked mode n value) = n ≤ 14

-- the core after one
abbrev pub core_with_change : State → RegisterWrite → State
core_with_change s (change.Present n value) = with_register s n value
core_with_change s (change.Place address) = record s { pc = address }
core_with_change s (change.Status status) = with_psr s status
core_with_change s (change.Banked mode n value) = with_register_in mode s n value
