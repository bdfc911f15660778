-- The lines of an answer, one after another.
use Rattle.std.proofs.Common.{◌≡◌, ℕ, List, [], ◌∷◌, Bool, true, false, ap, refl}
use Rattle.std.specs.List.{list_any}
use Rattle.debug_modes.specs.expectations.Checks.{is_line_of_words, last_line_or}

pub last_more : (last line : List ℕ) (rest : List (List ℕ)) → last_line_or last (line ∷ rest) ≡ last_line_or line rest
unfolding last_line_or
last_more last line rest = refl

pub last_end : (last : List ℕ) → last_line_or last [] ≡ last
unfolding last_line_or
last_end last = refl

pub any_here : (text line : List ℕ) (rest : List (List ℕ)) → is_line_of_words text line ≡ true
    → list_any (is_line_of_words text) (line ∷ rest) ≡ true
any_here text line rest is = rw (is) refl

pub any_more : (text line : List ℕ) (rest : List (List ℕ)) → is_line_of_words text line ≡ false
    → list_any (is_line_of_words text) (line ∷ rest) ≡ list_any (is_line_of_words text) rest
any_more text line rest none = rw (none) refl

pub ruleset line_steps = (last_more, last_end, any_here, any_more)
