-- Lines and names of many parts.
use Rattle.std.proofs.Common.{◌≡◌, ◌<◌, ℕ, List, [], ◌∷◌, length, ap, ◌∙◌, arith, refl, None}
use Rattle.std.specs.Prelude.{◌==◌}
use Rattle.std.specs.List.{slice_split}
use Rattle.profile.proofs.TextLinesLemmas.LineLemmas.{some_part}
use Rattle.debug_lines.specs.Registers.{register_in_bank_of_parts}

-- a line with four words and more behind them
pub five_words : (a b c line fourth rest : List ℕ)
    → slice_split (λ b. b == 32) line ≡ fourth ∷ slice_split (λ b. b == 32) rest
    → 4 < length (a ∷ b ∷ c ∷ slice_split (λ b. b == 32) line)
five_words a b c line fourth rest parts = omega (arith, ap length parts, some_part (λ b. b == 32) rest)

not_two_parts : (name mode : List ℕ) (more : List (List ℕ)) → 0 < length more
    → register_in_bank_of_parts (name ∷ mode ∷ more) ≡ None
not_two_parts name mode [] some = absurd (omega (arith, some))
not_two_parts name mode (other ∷ others) some = refl

-- a name with two `_` and more
pub three_parts : (name text mode more : List ℕ)
    → slice_split (λ b. b == 95) text ≡ mode ∷ slice_split (λ b. b == 95) more
    → register_in_bank_of_parts (name ∷ slice_split (λ b. b == 95) text) ≡ None
three_parts name text mode more parts =
    ap (λ (others : List (List ℕ)). register_in_bank_of_parts (name ∷ others)) parts
    ∙ not_two_parts name mode (slice_split (λ b. b == 95) more) (some_part (λ b. b == 95) more)
