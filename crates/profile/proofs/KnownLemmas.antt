-- What is known of a device's bytes stays known over a call that changed none of them.
use Rattle.std.proofs.Common.{◌≡◌, ℕ, List, ◌++◌, Option, Some, None, refl, sym, ◌∙◌, ap}
use Rattle.std.specs.Io.KnownBytes.{Keeps, Appends, Consumes}

pub Keeps-self : (a : Option (List ℕ)) → Keeps a a
Keeps-self None = tt
Keeps-self (Some a) = let e : a ≡ a = refl in e

pub Keeps-twice : (a b c : Option (List ℕ)) → Keeps a b → Keeps b c → Keeps a c
Keeps-twice None b c h k = tt
Keeps-twice (Some a) None c h k = absurd h
Keeps-twice (Some a) (Some b) None h k = absurd k
Keeps-twice (Some a) (Some b) (Some c) h k = k ∙ h

pub Keeps-appends : (a b c : Option (List ℕ)) (xs : List ℕ) → Keeps a b → Appends b c xs → Appends a c xs
Keeps-appends None b c xs h k = tt
Keeps-appends (Some a) None c xs h k = absurd h
Keeps-appends (Some a) (Some b) None xs h k = absurd k
Keeps-appends (Some a) (Some b) (Some c) xs h k = k ∙ ap (λ z. z ++ xs) h

pub Keeps-consumes : (a b c : Option (List ℕ)) (xs : List ℕ) → Keeps a b → Consumes b c xs → Consumes a c xs
Keeps-consumes None b c xs h k = tt
Keeps-consumes (Some a) None c xs h k = absurd h
Keeps-consumes (Some a) (Some b) None xs h k = absurd k
Keeps-consumes (Some a) (Some b) (Some c) xs h k = sym h ∙ k
