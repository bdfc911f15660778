-- Where a list is past, no first of it is left.
use Rattle.std.proofs.Common.{◌≡◌, ℕ, ◌≤◌, List, length, drop, Option, None, refl}
use Rattle.std.proofs.lemmas.List.{drop_all}
use Rattle.profile.specs.Firsts.{first_of}

pub first_past : {X Y : Type 0} (f : X → Option Y) (xs : List X) (n : ℕ) → length xs ≤ n → first_of f (drop n xs) ≡ None
first_past f xs n past = rw (drop_all n xs past) refl
