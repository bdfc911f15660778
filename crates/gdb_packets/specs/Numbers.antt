-- The numbers of a packet: hexadecimal digits in either case, one at least, with a value below 2^32.
-- Leading zeros add nothing.
use Rattle.std.specs.Prelude.{ℕ, ◌+◌, ◌*◌, ◌^◌, nat_lt, List, [], ◌∷◌, Option, Some, None, option_and_then, if◌then◌else◌}
use Rattle.gdb_packets.specs.Digits.{digit_value}

abbrev pub below_limit : ℕ → Option ℕ
below_limit n = if nat_lt n (2 ^ 32) then Some n else None

-- a number with one more digit behind it, where it stays below 2^32
abbrev pub with_digit : ℕ → Option ℕ → Option ℕ
with_digit value None = None
with_digit value (Some digit) = below_limit (16 * value + digit)

-- digits behind those of a number
unfoldable pub number_onto : ℕ → List ℕ → Option ℕ
number_onto value [] = Some value
number_onto value (digit ∷ digits) =
    option_and_then (λ next. number_onto next digits) (with_digit value (digit_value digit))

abbrev pub packet_number : List ℕ → Option ℕ
packet_number [] = None
packet_number (digit ∷ digits) = number_onto 0 (digit ∷ digits)
