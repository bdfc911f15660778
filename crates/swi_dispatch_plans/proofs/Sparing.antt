-- Frames that no SWI of some slots is among.
use Rattle.std.proofs.Common.{◌≡◌, ◌==◌, ◌||◌, ◌&&◌, ℕ, Bool, true, false, List, [], ◌∷◌, refl, sym, ◌∙◌, ap}
use Rattle.std.proofs.Math.Bool.{and-false}
use Rattle.std.specs.List.{All, list_any}
use Rattle.std.proofs.lemmas.Bool.{or_parts}
use Rattle.std.proofs.lemmas.List.Elements.{All-head, All-tail}
use Rattle.swi_dispatch_answers.specs.Doable.{is_used}
use Rattle.swi_dispatch_answers.specs.declared.frames.frame.Frame.{Frame}
use Rattle.swi_dispatch_answers.specs.frames.Busy.{has_swi_of, is_swi}

-- There is none of others either, if of the instances that are there these are no more.
unlike : (swi a b : Bool) → (a ≡ false → b ≡ false) → (swi && a) ≡ false → (swi && b) ≡ false
unlike true a b fewer none = fewer none
unlike false a b fewer none = refl

pub among : (s : ℕ) (slots : List ℕ) → list_any (λ (slot : ℕ). slot == s) slots ≡ is_used s slots
among s [] = refl
among s (slot ∷ others) = ap (λ (b : Bool). slot == s || b) (among s others)

pub none_of : (used slots more : List ℕ) (fs : List Frame) → All (λ (f : Frame). is_used f.slot used ≡ true) fs
    → ((s : ℕ) → is_used s used ≡ true → is_used s slots ≡ false → is_used s more ≡ false) → has_swi_of slots fs ≡ false
    → has_swi_of more fs ≡ false
none_of used slots more [] held fewer none = refl
none_of used slots more (f ∷ fs) held fewer none =
    let parts = or_parts (is_swi f.kind && list_any (λ (slot : ℕ). slot == f.slot) slots) (has_swi_of slots fs) none in
    let there : is_used f.slot used ≡ true = All-head (λ (g : Frame). is_used g.slot used ≡ true) f fs held in
    let here = unlike (is_swi f.kind) (list_any (λ (slot : ℕ). slot == f.slot) slots)
    (list_any (λ (slot : ℕ). slot == f.slot) more)
    (λ unnamed. among f.slot more ∙ fewer f.slot there (sym (among f.slot slots) ∙ unnamed)) parts.0 in
    let others = All-tail (λ (g : Frame). is_used g.slot used ≡ true) f fs held in
    let rest = none_of used slots more fs others fewer parts.1 in
    rw (here, rest) refl

pub none_of_none : (fs : List Frame) → has_swi_of [] fs ≡ false
none_of_none [] = refl
none_of_none (f ∷ fs) = rw (and-false (is_swi f.kind), none_of_none fs) refl
