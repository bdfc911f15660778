-- Lines of many words.
use Rattle.std.proofs.Common.{◌≡◌, ◌<◌, ℕ, List, [], ◌∷◌, length, ap, ◌∙◌, arith, refl}
use Rattle.std.specs.Prelude.{◌==◌}
use Rattle.std.specs.List.{slice_split}
use Rattle.assembler_text.proofs.LineLemmas.{some_part}
use Rattle.command_shell_lines.specs.Requests.{request_of_words, Unknown}

unknown_words : (word first second : List ℕ) (more : List (List ℕ)) → 0 < length more
    → request_of_words (word ∷ first ∷ second ∷ more) ≡ Unknown
unknown_words word first second [] some = absurd (omega (arith, some))
unknown_words word first second (other ∷ others) some = refl

-- a line of four words or more asks for nothing that there is
pub four_words : (word first second line rest : List ℕ)
    → slice_split (λ b. b == 32) line ≡ second ∷ slice_split (λ b. b == 32) rest
    → request_of_words (word ∷ first ∷ slice_split (λ b. b == 32) line) ≡ Unknown
four_words word first second line rest parts =
    ap (λ (ws : List (List ℕ)). request_of_words (word ∷ first ∷ ws)) parts
    ∙ unknown_words word first second (slice_split (λ b. b == 32) rest) (some_part (λ b. b == 32) rest)
