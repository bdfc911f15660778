-- The registers that differ, written one after another.
use Rattle.std.proofs.Common.{◌≡◌, ◌+◌, ℕ, Option, List, [], ◌∷◌, ◌++◌, sym, ◌∙◌, ap, subst}
use Rattle.std.specs.List.{flat_map}
use Rattle.std.proofs.lemmas.Grind.{flat_map-append}
use Rattle.std.proofs.lemmas.List.{append-nil}
use Rattle.std.specs.Io.KnownBytes.{Appends}
use Rattle.profile.proofs.OutputLemmas.{Appends-join, Appends-nothing}
use Rattle.trace_effects.specs.declared.changes.registers.RegisterChange.{RegisterChange}
use Rattle.trace_effects.specs.changes.Registers.{IsNext, IsNextIn, changes_below}
use Rattle.trace_effects.proofs.ChangesLemmas.ChangeLemmas.{no_changes}

pub none_written : (f : RegisterChange → List ℕ) (a : Option (List ℕ)) (old new : List ℕ) → Appends a a (flat_map f (changes_below old new 0))
none_written f a old new =
    let none : flat_map f (changes_below old new 0) ≡ [] = ap (flat_map f) (no_changes old new) in
    subst (λ (t : List ℕ). Appends a a t) (sym none) (Appends-nothing a)

pub next_written : (f : RegisterChange → List ℕ) (a b c : Option (List ℕ)) (old new : List ℕ) (from : ℕ) (change : RegisterChange)
    → Appends a b (flat_map f (changes_below old new from)) → Appends b c (f change) → IsNext old new from 26 change
    → Appends a c (flat_map f (changes_below old new (change.place + 1)))
next_written f a b c old new from change done here next =
    let before : List ℕ = flat_map f (changes_below old new from) in
    let all : flat_map f (changes_below old new (change.place + 1)) ≡ before ++ f change =
    ap (flat_map f) next.listed ∙ (flat_map-append f (changes_below old new from) (change ∷ []) ∙ ap (λ (t : List ℕ). before ++ t) (append-nil (f change))) in
    subst (λ (t : List ℕ). Appends a c t) (sym all) (Appends-join a b c before (f change) done here)

pub all_written : (f : RegisterChange → List ℕ) (a b : Option (List ℕ)) (old new : List ℕ) (from : ℕ)
    → Appends a b (flat_map f (changes_below old new from)) → changes_below old new 26 ≡ changes_below old new from
    → Appends a b (flat_map f (changes_below old new 26))
all_written f a b old new from done none = subst (λ (t : List ℕ). Appends a b t) (sym (ap (flat_map f) none)) done
