-- Lines of many words.
use Rattle.std.proofs.Common.{◌≡◌, ◌<◌, ℕ, List, [], ◌∷◌, None, length, ap, ◌∙◌, arith, refl}
use Rattle.std.specs.Prelude.{◌==◌}
use Rattle.std.specs.List.{slice_split}
use Rattle.profile.proofs.TextLinesLemmas.LineLemmas.{some_part}
use Rattle.arm_core.specs.declared.psr.Mode.{Mode}
use Rattle.debug_history.specs.Lines.{past_line_of}

many_words : (mode : Mode) (word second third fourth : List ℕ) (more : List (List ℕ)) → 0 < length more
    → past_line_of mode (word ∷ second ∷ third ∷ fourth ∷ more) ≡ None
many_words mode word second third fourth [] some = absurd (omega (arith, some))
many_words mode word second third fourth (other ∷ others) some = refl

-- a line of five words or more asks for nothing of the past
pub five_words : (mode : Mode) (word second third fourth line rest : List ℕ)
    → slice_split (λ b. b == 32) line ≡ fourth ∷ slice_split (λ b. b == 32) rest
    → past_line_of mode (word ∷ second ∷ third ∷ slice_split (λ b. b == 32) line) ≡ None
five_words mode word second third fourth line rest parts =
    ap (λ (ws : List (List ℕ)). past_line_of mode (word ∷ second ∷ third ∷ ws)) parts
    ∙ many_words mode word second third fourth (slice_split (λ b. b == 32) rest) (some_part (λ b. b == 32) rest)
