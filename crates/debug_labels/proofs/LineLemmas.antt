-- Words that are written one after another, with a space between each two, and words of many parts.
use Rattle.std.proofs.Common.{◌≡◌, ℕ, ◌-◌, ◌<◌, List, [], ◌∷◌, ◌++◌, length, None, refl, ap, ◌∙◌, append_assoc, arith}
use Rattle.std.specs.Prelude.{◌==◌}
use Rattle.std.specs.List.{join_with_byte, slice_split}
use Rattle.profile.proofs.TextLinesLemmas.LineLemmas.{some_part}
use Rattle.debug_labels.specs.Lines.{numbered_words, word_behind}
use Rattle.debug_labels.specs.Words.{Naming, value_of_parts}

-- a word and a space are written, and the words behind them are left
pub numbered_on : (n : Naming) (left : ℕ) (text word next : List ℕ) (others : List (List ℕ)) (all : List ℕ)
    → text ++ join_with_byte 32 (numbered_words n left (word ∷ next ∷ others)) ≡ all
    → ((text ++ word_behind n left word) ++ 32 ∷ []) ++ join_with_byte 32 (numbered_words n (left - 1) (next ∷ others)) ≡ all
numbered_on n left text word next others all is =
    let more : List ℕ = join_with_byte 32 (numbered_words n (left - 1) (next ∷ others)) in
    append_assoc (text ++ word_behind n left word) (32 ∷ []) more
    ∙ append_assoc text (word_behind n left word) (32 ∷ more) ∙ is

not_two_parts : (n : Naming) (image text : List ℕ) (more : List (List ℕ)) → 0 < length more
    → value_of_parts n (image ∷ text ∷ more) ≡ None
not_two_parts n image text [] some = absurd (omega (arith, some))
not_two_parts n image text (other ∷ others) some = refl

-- an image's name and two parts or more
pub three_parts : (n : Naming) (image text label more : List ℕ)
    → slice_split (λ b. b == 58) text ≡ label ∷ slice_split (λ b. b == 58) more
    → value_of_parts n (image ∷ slice_split (λ b. b == 58) text) ≡ None
three_parts n image text label more parts =
    ap (λ (others : List (List ℕ)). value_of_parts n (image ∷ others)) parts
    ∙ not_two_parts n image label (slice_split (λ b. b == 58) more) (some_part (λ b. b == 58) more)
