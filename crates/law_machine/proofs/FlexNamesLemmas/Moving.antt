-- Blocks whose anchors moved: their numbers and what they show.
use Rattle.std.proofs.Common.{◌≡◌, ℕ, zero, suc, ◌+◌, ◌<◌, ◌≤◌, false, List, [], ◌∷◌, ◌++◌, length, Option, None, Some, arith, refl, sym, ◌∙◌, ap, inl, inr}
use Rattle.std.specs.Option.{option_and_then, option_map}
use Rattle.std.proofs.lemmas.Bool.{cases_Bool}
use Rattle.law_machine.specs.flex.Numbered.{Anchor, AreElsewhere, AreNumbered, Fixed, Inside, IsBeforeBlock, SeenBlock, with_places}
use Rattle.law_machine.specs.flex_names.Names.{At, shown_bytes_of, In, Name, number_from, number_named, place_named, same_place}
use Rattle.law_machine.proofs.FlexNamesLemmas.Found.{none_some, place_not, place_self, some_same}

-- each block's anchor is at such a place
abbrev pub Every : (Anchor → Type 0) → List SeenBlock → Type 0
Every P [] = Unit {0}
Every P (b ∷ bs) = P b.anchor × Every P bs

pub every_map : (P Q : Anchor → Type 0) → ((c : Anchor) → P c → Q c) → (bs : List SeenBlock) → Every P bs → Every Q bs
every_map P Q by [] all = tt
every_map P Q by (b ∷ bs) all = (by b.anchor all.0, every_map P Q by bs all.1)

pub every_any : (P : Anchor → Type 0) → ((c : Anchor) → P c) → (bs : List SeenBlock) → Every P bs
every_any P all [] = tt
every_any P all (b ∷ bs) = (all b.anchor, every_any P all bs)

-- no anchor is in these bytes of a block
abbrev pub IsFree : ℕ → ℕ → ℕ → Anchor → Type 0
IsFree k from to c = (o : ℕ) → from ≤ o → o < to → same_place c (Inside k o) ≡ false

pub none_first : (n : ℕ) (x : Anchor) (b : SeenBlock) (bs : List SeenBlock) → number_from n x (b ∷ bs) ≡ None
    → (same_place b.anchor x ≡ false) × (number_from (suc n) x bs ≡ None)
none_first n x b bs none = elim (cases_Bool (same_place b.anchor x)) [
  | inl here ↦ absurd (none_some n (sym none ∙ rw here refl))
  | inr other ↦ (other, rw other at none)
]

pub free_each : (n k from to : ℕ) (bs : List SeenBlock) → ((o : ℕ) → from ≤ o → o < to → number_from n (Inside k o) bs ≡ None) → Every (IsFree k from to) bs
free_each n k from to [] none = tt
free_each n k from to (b ∷ bs) none = (
  λ o low high. (none_first n (Inside k o) b bs (none o low high)).0,
  free_each (suc n) k from to bs (λ o low high. (none_first n (Inside k o) b bs (none o low high)).1),
)

pub alike : (go : Anchor → Anchor) (x y : Anchor) (n : ℕ) (bs : List SeenBlock) → Every (λ c. same_place (go c) y ≡ same_place c x) bs
    → number_from n y (with_places go bs) ≡ number_from n x bs
alike go x y n [] all = refl
alike go x y n (b ∷ bs) all = elim (cases_Bool (same_place b.anchor x)) [
  | inl here ↦ rw (all.0, here) refl
  | inr other ↦ rw (all.0, other) (alike go x y (suc n) bs all.1)
]

pub none_goes : (go : Anchor → Anchor) (y : Anchor) (n : ℕ) (bs : List SeenBlock) → Every (λ c. same_place (go c) y ≡ false) bs
    → number_from n y (with_places go bs) ≡ None
none_goes go y n [] all = refl
none_goes go y n (b ∷ bs) all = rw all.0 (none_goes go y (suc n) bs all.1)

abbrev pub seen_block : Anchor → List (Option ℕ) → SeenBlock
seen_block x l = record { anchor = x; bytes = l }

-- what a block shows shows nothing of numbers
pub own_else : (n : ℕ) (y x : Anchor) (l m : List (Option ℕ)) (xs ys : List SeenBlock)
    → number_from n y (xs ++ seen_block x l ∷ ys) ≡ number_from n y (xs ++ seen_block x m ∷ ys)
own_else n y x l m [] ys = refl
own_else n y x l m (b ∷ xs) ys = elim (cases_Bool (same_place b.anchor y)) [
  | inl here ↦ rw here refl
  | inr other ↦ rw other (own_else (suc n) y x l m xs ys)
]

-- Anchors in front of a block move by nothing that moves those in it or after it.
pub front_stays : (go : Anchor → Anchor) (k : ℕ) → ((c : Anchor) (m : ℕ) → m ≤ k → IsBeforeBlock m c → go c ≡ c) → (n : ℕ) (xs : List SeenBlock) (b : SeenBlock)
    (ys : List SeenBlock) → n + length xs ≡ k → AreNumbered n (xs ++ b ∷ ys) → with_places go (xs ++ b ∷ ys) ≡ xs ++ b ∷ with_places go ys
front_stays go k stays n [] b ys at numbered =
    let own : go b.anchor ≡ b.anchor = stays b.anchor n (omega (arith, at)) numbered.0 in
    λ i. record { anchor = own i; bytes = b.bytes } ∷ with_places go ys
front_stays go k stays n (c ∷ xs) b ys at numbered =
    let own : go c.anchor ≡ c.anchor = stays c.anchor n (omega (arith, at)) numbered.0 in
    let rest = front_stays go k stays (suc n) xs b ys (omega (arith, at)) numbered.1.1 in
    λ i. record { anchor = own i; bytes = c.bytes } ∷ rest i

-- the number of a block by those in front of it
elsewhere_in : (x : Anchor) (xs : List SeenBlock) (b : SeenBlock) (ys : List SeenBlock) → AreElsewhere x (xs ++ b ∷ ys) → b.anchor ≡ x → ⊥
elsewhere_in x [] b ys apart = apart.0
elsewhere_in x (c ∷ xs) b ys apart = elsewhere_in x xs b ys apart.1

pub found_at : (n : ℕ) (xs : List SeenBlock) (b : SeenBlock) (ys : List SeenBlock) → AreNumbered n (xs ++ b ∷ ys)
    → number_from n b.anchor (xs ++ b ∷ ys) ≡ Some (n + length xs)
found_at n [] b ys numbered =
    let e : n ≡ n + 0 = omega arith in
    rw (place_self b.anchor) (ap (λ (k : ℕ). let o : Option ℕ = Some k in o) e)
found_at n (c ∷ xs) b ys numbered =
    let e : suc n + length xs ≡ n + suc (length xs) = omega arith in
    rw (place_not c.anchor b.anchor (λ same. elsewhere_in c.anchor xs b ys numbered.1.0 (sym same)))
    (found_at (suc n) xs b ys numbered.1.1 ∙ ap (λ (k : ℕ). let o : Option ℕ = Some k in o) e)

-- a name and the place that it shows
pub named_by_place : (p : List SeenBlock) (name : Name) (x : Anchor) → place_named p name ≡ Some x → number_named p name ≡ number_from 0 x p
named_by_place p (At a) x e = ap (λ (y : Anchor). number_from 0 y p) (some_same (Fixed a) x e)
named_by_place p (In y o) x e = by (number_named p y) e where
  by : (m : Option ℕ) → option_map (λ n. Inside n o) m ≡ Some x → option_and_then (λ n. number_from 0 (Inside n o) p) m ≡ number_from 0 x p
  by None e = absurd (none_some x e)
  by (Some n) e = ap (λ (y : Anchor). number_from 0 y p) (some_same (Inside n o) x e)

-- what blocks show
pub bytes_own : (xs : List SeenBlock) (b : SeenBlock) (ys : List SeenBlock) → shown_bytes_of (length xs) (xs ++ b ∷ ys) ≡ Some b.bytes
bytes_own [] b ys = refl
bytes_own (c ∷ xs) b ys = bytes_own xs b ys

pub bytes_with : (go : Anchor → Anchor) (m : ℕ) (bs : List SeenBlock) → shown_bytes_of m (with_places go bs) ≡ shown_bytes_of m bs
bytes_with go m [] = refl
bytes_with go zero (b ∷ bs) = refl
bytes_with go (suc m) (b ∷ bs) = bytes_with go m bs

pub bytes_else : (go : Anchor → Anchor) (m : ℕ) (xs : List SeenBlock) (b c : SeenBlock) (ys : List SeenBlock) → (m ≡ length xs → ⊥)
    → shown_bytes_of m (xs ++ c ∷ with_places go ys) ≡ shown_bytes_of m (xs ++ b ∷ ys)
bytes_else go zero [] b c ys apart = absurd (apart refl)
bytes_else go (suc m) [] b c ys apart = bytes_with go m ys
bytes_else go zero (d ∷ xs) b c ys apart = refl
bytes_else go (suc m) (d ∷ xs) b c ys apart = bytes_else go m xs b c ys (λ same. apart (ap suc same))
