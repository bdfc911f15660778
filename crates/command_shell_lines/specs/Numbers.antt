-- The numbers of a script, by their exact values: decimal digits, or `&` and hexadecimal digits in
-- either case; at least one digit, and a value below 2^32. Leading zeros add nothing.
use Rattle.std.specs.Prelude.{ℕ, ◌+◌, ◌*◌, ◌^◌, ◌==◌, ◌&&◌, nat_lt, List, [], ◌∷◌, length, Option, Some, None, if◌then◌else◌}
use Rattle.std.specs.Char.{is_digit, digit_value}
use Rattle.std.specs.List.{list_all}
use Rattle.std.specs.Str.Parse.{digits_value}

-- digits in this radix, the first the highest
unfoldable pub digits_number : ℕ → List ℕ → Option ℕ
digits_number radix digits =
    if nat_lt 0 (length digits)
    && (list_all (λ c. is_digit c radix) digits && nat_lt (digits_value radix digits) (2 ^ 32))
    then Some (digits_value radix digits) else None

-- a number with one more digit after it, where it stays below 2^32
abbrev pub script_number_with_digit : ℕ → ℕ → ℕ → Option ℕ
script_number_with_digit radix value digit =
    if is_digit digit radix && nat_lt (value * radix + digit_value digit) (2 ^ 32)
    then Some (value * radix + digit_value digit) else None

abbrev pub script_number : List ℕ → Option ℕ
script_number [] = None
script_number (c ∷ rest) = if c == 38 then digits_number 16 rest else digits_number 10 (c ∷ rest)
