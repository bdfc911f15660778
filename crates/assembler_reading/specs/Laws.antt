-- What is printed is read as it was meant, whatever labels there are: laws over the definitions
-- alone.
use Rattle.std.specs.Prelude.{◌≡◌, ℕ, ◌<◌, ◌%◌, ◌^◌, [], ◌∷◌, ◌++◌, codes, Some, Ok, Err}
use Rattle.profile.specs.Digits.{hex_word}
use Rattle.profile.specs.Fault.{Fault}
use Rattle.arm_decode.specs.Decoded.{instruction_of_word}
use Rattle.arm_decode.specs.declared.action.Action.{Action}
use Rattle.arm_decode.specs.declared.condition.Condition.{Condition}
use Rattle.assembler_text.specs.Printing.{print}
use Rattle.assembler_text.specs.naming.Expressions.{Lookup, expression}
use Rattle.assembler_reading.specs.Instructions.{instruction}

-- the text of an instruction at its address is read as its word, to the end
abbrev pub InstructionsAreReadAgain : Type 0
InstructionsAreReadAgain =
    (labels : Lookup) (word address : ℕ) (i : Condition × Action) → word < 2 ^ 32 → address % 4 ≡ 0 →
    address < 2 ^ 26 → instruction_of_word word ≡ Ok i
    → instruction labels address (print word address) ≡ Some (Ok word, [])

-- the text of any other word is DCD and an expression, whose value is the word
abbrev pub DataIsReadAgain : Type 0
DataIsReadAgain =
    (labels : Lookup) (word address : ℕ) (f : Fault) → word < 2 ^ 32 → instruction_of_word word ≡ Err f
    → (print word address ≡ codes "DCD " ++ (38 ∷ hex_word word)) ×
    (expression labels (38 ∷ hex_word word) ≡ Some (Some word, []))
