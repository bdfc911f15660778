-- Strings in memory: bytes up to one that ends them, and not more than so many (RISC OS 3
-- Programmer's Reference Manual, "OS_Write0", "OS_CLI"; the limits, 4096 bytes of a string to be
-- printed and 255 of any other, are this project's own).
use Rattle.std.specs.Prelude.{ℕ, Bool, zero, suc, ◌+◌, ◌*◌, ◌/◌, ◌==◌, ◌&&◌, nat_lt, Option, Some, None, List, [], ◌∷◌, ok_or, Result, Ok, Err, if◌then◌else◌}
use Rattle.std.specs.Option.{option_map}
use Rattle.arrayvec.specs.ArrayVec.{ArrayVec}
use Rattle.address_map.specs.ErrorNumber.{ErrorNumber}
use Rattle.address_map.specs.ErrorNumber.TheVariants.{BadString}
use Rattle.address_map.specs.Bytes.{Bytes}
use Rattle.arm_core.specs.State.{State, register_of}
use Rattle.swi_dispatch_answers.specs.declared.strings.TextEnd.{TextEnd}
use Rattle.swi_dispatch_answers.specs.declared.strings.TextEnd.TheVariants as end

-- a string to be printed ends at a zero byte, any other at its first byte below 32
abbrev pub ends : TextEnd → ℕ → Bool
ends end.Zero byte = byte == 0
ends end.Control byte = nat_lt byte 32

-- the bytes from `at` on up to the first that ends them, if all are mapped and there are at most so
-- many
unfoldable pub text_at : (ℕ → Bool) → ℕ → Bytes → ℕ → Option (List ℕ)
text_at is_end zero b at = if b.mapped at && is_end (b.at at) then Some [] else None
text_at is_end (suc most) b at =
    if b.mapped at then (if is_end (b.at at) then Some []
    else option_map (λ text. b.at at ∷ text) (text_at is_end most b (at + 1))) else None

-- the first whole word at or after an address
abbrev pub next_word : ℕ → ℕ
next_word a = 4 * ((a + 3) / 4)

-- a string that is not printed
abbrev pub string_at : Bytes → ℕ → Option (List ℕ)
string_at b at = text_at (ends end.Control) 255 b at

-- the string that a register points to, and as it is read
abbrev pub bytes_read : Result (ArrayVec ℕ) ErrorNumber → Result (List ℕ) ErrorNumber
bytes_read (Ok text) = Ok text.items
bytes_read (Err e) = Err e

abbrev pub string_in : Bytes → State → ℕ → Result (List ℕ) ErrorNumber
string_in b cpu n = ok_or (string_at b (register_of cpu n)) BadString
