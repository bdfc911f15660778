-- The bytes that a line of hexadecimal digits spells: pairs of adjacent digits in either case. Any
-- number of spaces may stand before, between and after the pairs, and none inside one.
use Rattle.std.specs.Prelude.{ℕ, ◌+◌, ◌*◌, ◌==◌, ◌&&◌, List, [], ◌∷◌, Option, Some, None, if◌then◌else◌}
use Rattle.std.specs.Char.{is_digit, digit_value}
use Rattle.std.specs.Io.KnownBytes.{prepend_known}

abbrev pub pair_value : ℕ → ℕ → Option ℕ
pair_value high low =
    if is_digit high 16 && is_digit low 16 then Some (16 * digit_value high + digit_value low) else None

abbrev pub onto_bytes : Option ℕ → Option (List ℕ) → Option (List ℕ)
onto_bytes None rest = None
onto_bytes (Some byte) None = None
onto_bytes (Some byte) (Some bytes) = Some (byte ∷ bytes)

unfoldable pub bytes_of_hex_pairs : List ℕ → Option (List ℕ)
bytes_of_hex_pairs [] = Some []
bytes_of_hex_pairs (c ∷ []) = if c == 32 then Some [] else None
bytes_of_hex_pairs (c ∷ d ∷ rest) = if c == 32 then bytes_of_hex_pairs (d ∷ rest)
    else onto_bytes (pair_value c d) (bytes_of_hex_pairs rest)

-- bytes, and then those that a line spells
unfoldable pub with_spelled : List ℕ → List ℕ → Option (List ℕ)
with_spelled bytes line = prepend_known bytes (bytes_of_hex_pairs line)
