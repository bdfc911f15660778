-- The text of each word is a program of that word.
use Rattle.std.proofs.Common.{◌≡◌, ◌<◌, ◌%◌, ◌^◌, ℕ, Bool, true, false, List, [], ◌∷◌, Result, Some, Ok, Err, refl, arith}
use Rattle.std.specs.Prelude.{◌==◌}
use Rattle.std.specs.List.{slice_split}
use Rattle.std.specs.Str.Lines.{lines}
use Rattle.std.specs.Int.{to_le_bytes, w32}
use Rattle.profile.specs.Digits.{hex_word}
use Rattle.profile.specs.Fault.{Fault}
use Rattle.arm_decode.specs.Decoded.{instruction_of_word}
use Rattle.arm_decode.specs.Ranges.{FitsFields}
use Rattle.arm_decode.specs.declared.action.Action.{Action}
use Rattle.arm_decode.specs.declared.condition.Condition.{Condition}
use Rattle.arm_decode.proofs.Placed.{fields_have_places}
use Rattle.assembler_reading.specs.Printing.{data_text, print}
use Rattle.assembler_reading.specs.Expressions.{Lookup}
use Rattle.assembler_reading.specs.Labels.{address_of}
use Rattle.assembler_reading.proofs.PrintedAgain.{data_is_read_again, instructions_are_read_again}
use Rattle.profile.proofs.TextLinesLemmas.LineLemmas.{lines_last}
use Rattle.assembler.specs.Line.{line}
use Rattle.assembler.specs.Passes.{means, means_lines}
use Rattle.assembler.specs.Laws.{PrintedWordsAreAssembled}
use Rattle.assembler.proofs.Beginnings.{instruction_begins}
use Rattle.assembler.proofs.PrintedLines.{BeginsInstruction, data_line, instruction_line, one_line, word_fits, word_line}
use Rattle.assembler.proofs.Unbroken.{IsUnbroken, action_unbroken, behind_first, hex_word_unbroken}

print_begins : (w address : ℕ) (i : Condition × Action) → instruction_of_word w ≡ Ok i → BeginsInstruction (print w address)
unfolding print
print_begins w address i e = rw e (instruction_begins address i.0 i.1)

printed_line : (labels : Lookup) (w address : ℕ) (r : Result (Condition × Action) Fault) → instruction_of_word w ≡ r → w < 2 ^ 32 → address % 4 ≡ 0
    → address < 2 ^ 26 → line labels address [] (32 ∷ print w address) ≡ Some (word_line address w)
printed_line labels w address (Ok i) e small even low =
    instruction_line labels address w (print w address) (print_begins w address i e) (instructions_are_read_again labels w address i small even low e)
printed_line labels w address (Err f) e small even low =
    let d = data_is_read_again labels w address f small e in
    rw d.0 (data_line labels address w (hex_word w) d.1)

pub printed_lines_are_assembled : (w address : ℕ) → w < 2 ^ 32 → address % 4 ≡ 0 → address < 2 ^ 26
    → means_lines ((32 ∷ print w address) ∷ []) address ≡ Ok (to_le_bytes w32 w)
printed_lines_are_assembled w address small even low =
    one_line address w (32 ∷ print w address) (word_fits address w even low) (printed_line (address_of []) w address (instruction_of_word w) refl small even low)

-- no printed text has the byte that ends a line
instruction_unbroken : (w address : ℕ) (i : Condition × Action) → instruction_of_word w ≡ Ok i → FitsFields i.1 → IsUnbroken (print w address)
unfolding print
instruction_unbroken w address i e fits = rw e (action_unbroken address i.0 i.1 fits)

print_unbroken : (w address : ℕ) (r : Result (Condition × Action) Fault) → instruction_of_word w ≡ r → w < 2 ^ 32 → IsUnbroken (print w address)
unfolding print
print_unbroken w address (Ok i) e small = instruction_unbroken w address i e (fields_have_places w i small e).1
print_unbroken w address (Err f) e small = rw e (hex_word_unbroken w)

split_unbroken : (text : List ℕ) → IsUnbroken text → slice_split (λ b. b == 10) text ≡ text ∷ []
split_unbroken [] h = refl
split_unbroken (x ∷ text) h = by (x == 10) refl (split_unbroken text)
  where
    by : (b : Bool) → (x == 10) ≡ b → (IsUnbroken text → slice_split (λ b. b == 10) text ≡ text ∷ [])
        → slice_split (λ b. b == 10) (x ∷ text) ≡ (x ∷ text) ∷ []
    by true e more = let broken = rw e at h in absurd cc
    by false e more = rw (e, more (behind_first x text h)) refl

source_is_one_line : (text : List ℕ) → IsUnbroken text → lines (32 ∷ text) ≡ (32 ∷ text) ∷ []
source_is_one_line text h = lines_last (32 ∷ text) (32 ∷ text) (omega arith) (split_unbroken (32 ∷ text) h)

pub printed_words_are_assembled : PrintedWordsAreAssembled
unfolding means
printed_words_are_assembled w address small even low =
    rw (source_is_one_line (print w address) (print_unbroken w address (instruction_of_word w) refl small))
    (printed_lines_are_assembled w address small even low)
