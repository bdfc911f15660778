-- Numbers as text: hexadecimal in capitals, with eight digits or without leading zeros.
use Rattle.std.specs.Prelude.{ℕ, ◌+◌, ◌==◌, nat_lt, if◌then◌else◌, List, [], ◌∷◌, map}
use Rattle.profile.specs.Word.{field}

abbrev pub hex_digit : ℕ → ℕ
hex_digit d = if nat_lt d 10 then d + 48 else d + 55

-- the digit of a word's four bits from bit `low` on
abbrev pub hex_digit_at : ℕ → ℕ → ℕ
hex_digit_at word low = hex_digit (field word low 4)

-- all eight digits of a word
unfoldable pub hex_word : ℕ → List ℕ
hex_word word = map (hex_digit_at word) (28 ∷ 24 ∷ 20 ∷ 16 ∷ 12 ∷ 8 ∷ 4 ∷ 0 ∷ [])

-- digits without the zeros before the first other one; the last digit stays
abbrev pub without_zeros : List ℕ → List ℕ
without_zeros [] = []
without_zeros (x ∷ []) = x ∷ []
without_zeros (x ∷ y ∷ xs) = if x == 48 then without_zeros (y ∷ xs) else x ∷ y ∷ xs

unfoldable pub hex_number : ℕ → List ℕ
hex_number word = without_zeros (hex_word word)
