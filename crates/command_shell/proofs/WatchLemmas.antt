-- The first of some words that has changed.
use Rattle.std.proofs.Common.{◌≡◌, ℕ, ◌+◌, ◌<◌, List, length, drop, get_or, Option, sym, ap, ◌∙◌}
use Rattle.std.proofs.lemmas.List.{drop_more}
use Rattle.std.specs.Option.{option_or}
use Rattle.profile.specs.Firsts.{first_of}
use Rattle.profile.proofs.FirstLemmas.{first_past}

pub first_at : {X Y : Type 0} (f : X → Option Y) (xs : List X) (n : ℕ) (x : X) → n < length xs → x ≡ get_or xs n x
    → first_of f (drop n xs) ≡ option_or (f x) (first_of f (drop (n + 1) xs))
first_at {X} f xs n x below is =
    ap (first_of f) (drop_more xs n x below) ∙ ap (λ (y : X). option_or (f y) (first_of f (drop (n + 1) xs))) (sym is)

pub ruleset first_steps = (first_at, first_past)
