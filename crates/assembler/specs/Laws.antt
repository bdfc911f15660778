-- What is printed of a word is a program that means that word again: a law over the definitions
-- alone.
use Rattle.std.specs.Prelude.{◌≡◌, ℕ, ◌<◌, ◌%◌, ◌^◌, ◌∷◌, Ok}
use Rattle.std.specs.Int.{to_le_bytes, w32}
use Rattle.assembler_reading.specs.Printing.{print}
use Rattle.assembler.specs.Passes.{means}

-- a space and then the text of a word at its address, assembled at that address, is the word's four
-- bytes, the lowest first
abbrev pub PrintedWordsAreAssembled : Type 0
PrintedWordsAreAssembled =
    (word address : ℕ) → word < 2 ^ 32 → address % 4 ≡ 0 → address < 2 ^ 26
    → means (32 ∷ print word address) address ≡ Ok (to_le_bytes w32 word)
