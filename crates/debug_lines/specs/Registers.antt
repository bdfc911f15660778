-- The registers that a line can name, in either case: R0 to R14, SP and LR, and those of a mode, as
-- `R13_svc`.
use Rattle.std.specs.Prelude.{ℕ, ◌-◌, ◌==◌, ◌&&◌, nat_le, List, [], ◌∷◌, Option, Some, None, codes, if◌then◌else◌}
use Rattle.std.specs.List.{slice_split}
use Rattle.std.specs.Int.{is_in_range}
use Rattle.arm_core.specs.declared.psr.Mode.{Mode}
use Rattle.arm_core.specs.declared.psr.Mode.TheVariants.{User, FastInterrupt, Interrupt, Supervisor}
use Rattle.command_shell_lines.specs.Requests.{is_same_word}
use Rattle.debug_lines.specs.Status.{is_letter, mode_named}

-- `R0` to `R14`, without a leading zero
abbrev pub register_with_number : List ℕ → Option ℕ
register_with_number (letter ∷ digit ∷ []) =
    if is_letter 82 letter && is_in_range 48 57 digit then Some (digit - 48) else None
register_with_number (letter ∷ one ∷ digit ∷ []) =
    if is_letter 82 letter && (one == 49 && is_in_range 48 52 digit) then Some (digit - 38) else None
register_with_number _ = None

abbrev pub register_of_name : List ℕ → Option ℕ
register_of_name word =
    if is_same_word word (codes "SP") then Some 13 else (
    if is_same_word word (codes "LR") then Some 14 else
    register_with_number word)

-- the first register that a mode has a copy of its own of, or for USR that another mode has
abbrev pub first_banked : Mode → ℕ
first_banked User = 8
first_banked FastInterrupt = 8
first_banked Interrupt = 13
first_banked Supervisor = 13

abbrev pub register_in_bank : Option ℕ → Option Mode → Option (Mode × ℕ)
register_in_bank (Some n) (Some mode) = if nat_le (first_banked mode) n then Some (mode, n) else None
register_in_bank (Some n) None = None
register_in_bank None mode = None

abbrev pub register_in_bank_of_parts : List (List ℕ) → Option (Mode × ℕ)
register_in_bank_of_parts (name ∷ mode ∷ []) = register_in_bank (register_with_number name) (mode_named mode)
register_in_bank_of_parts _ = None

-- a register's name, `_` (95) and the mode
abbrev pub banked_register_named : List ℕ → Option (Mode × ℕ)
banked_register_named word = register_in_bank_of_parts (slice_split (λ b. b == 95) word)
