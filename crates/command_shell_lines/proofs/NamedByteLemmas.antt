-- How bytes that fill a range go on.
use Rattle.std.proofs.Common.{◌≡◌, ℕ, suc, ◌+◌, ◌%◌, List, [], ◌∷◌, ◌++◌, length, ap, ◌∙◌, arith, refl}
use Rattle.std.specs.Prelude.{slice_index}
use Rattle.command_shell_lines.specs.debug_words.NamedBytes.{fill_bytes}

pub filled_none : (pattern : List ℕ) → fill_bytes pattern 0 ≡ []
unfolding fill_bytes
filled_none pattern = refl

filled_suc : (pattern : List ℕ) (n : ℕ)
    → fill_bytes pattern (suc n) ≡ fill_bytes pattern n ++ slice_index pattern (n % length pattern) ∷ []
unfolding fill_bytes
filled_suc pattern n = refl

pub filled_more : (pattern : List ℕ) (n : ℕ)
    → fill_bytes pattern (n + 1) ≡ fill_bytes pattern n ++ slice_index pattern (n % length pattern) ∷ []
filled_more pattern n =
    let next : n + 1 ≡ suc n = omega arith in
    ap (fill_bytes pattern) next ∙ filled_suc pattern n

pub ruleset fill_steps = (filled_none, filled_more)
