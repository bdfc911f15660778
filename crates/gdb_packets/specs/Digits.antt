-- Hexadecimal digits: they are sent in small letters, and read in either case.
use Rattle.std.specs.Prelude.{ℕ, ◌+◌, ◌-◌, ◌/◌, ◌%◌, ◌&&◌, nat_lt, nat_le, List, [], ◌∷◌, Option, Some, None, if◌then◌else◌}

abbrev pub digit : ℕ → ℕ
digit value = if nat_lt value 10 then value + 48 else value + 87

abbrev pub digit_value : ℕ → Option ℕ
digit_value digit =
    if nat_le 48 digit && nat_le digit 57 then Some (digit - 48) else (
    if nat_le 97 digit && nat_le digit 102 then Some (digit - 87) else (
    if nat_le 65 digit && nat_le digit 70 then Some (digit - 55) else None))

-- a byte as two digits
abbrev pub two_digits : ℕ → List ℕ
two_digits value = digit (value / 16) ∷ digit (value % 16) ∷ []
