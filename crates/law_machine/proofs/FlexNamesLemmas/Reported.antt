-- Blocks of which one word is seen as described: their numbers, and what they show by name.
use Rattle.std.proofs.Common.{◌≡◌, ℕ, Bool, zero, suc, ◌<◌, ◌≤◌, nat_eq, List, [], ◌∷◌, ◌++◌, length, Option, None, Some, arith, refl, sym, ◌∙◌, ap, inl, inr}
use Rattle.std.specs.Prelude.{if◌then◌else◌}
use Rattle.std.specs.Option.{option_map}
use Rattle.std.proofs.lemmas.Bool.{cases_Bool, eq-eqb, eqb-true, false_from_ne_true, false≢true, ne_eqb}
use Rattle.law_machine.proofs.FlexLemmas.Apart.{fixed_inside, fixed_same, inside_number, inside_offset}
use Rattle.law_machine.specs.flex.Numbered.{Anchor, blocks_after_store, Fixed, Inside, IsBeforeBlock, place_shown, SeenBlock, word_shown}
use Rattle.law_machine.specs.flex_names.Names.{At, shown_bytes_of, In, Name, number_from, number_named, place_named, same_name, same_place, shown_named}
use Rattle.law_machine.proofs.FlexNamesLemmas.Found.{name_is, name_self, none_some, one_name, some_same}

block_numbers : (byte : Option ℕ) (m o n : ℕ) (y : Anchor) (bs ys : List SeenBlock) → number_from n y (blocks_after_store byte m o bs ++ ys) ≡ number_from n y (bs ++ ys)
block_numbers byte m o n y [] ys = refl
block_numbers byte zero o n y (b ∷ bs) ys = refl
block_numbers byte (suc m) o n y (b ∷ bs) ys = elim (cases_Bool (same_place b.anchor y)) [
  | inl here ↦ rw here refl
  | inr other ↦ rw other (block_numbers byte m o (suc n) y bs ys)
]

pub shown_numbers : (byte : Option ℕ) (x : Anchor) (n : ℕ) (y : Anchor) (bs ys : List SeenBlock) → number_from n y (place_shown byte x bs ++ ys) ≡ number_from n y (bs ++ ys)
shown_numbers byte (Fixed a) n y bs ys = refl
shown_numbers byte (Inside m o) n y bs ys = block_numbers byte m o n y bs ys

-- what the block of a number shows, where a word is seen as described
abbrev pub shown_at : Option ℕ → Anchor → ℕ → Option (List (Option ℕ)) → Option (List (Option ℕ))
shown_at byte (Fixed a) m shown = shown
shown_at byte (Inside n o) m shown = if nat_eq m n then option_map (word_shown byte o 0) shown else shown

block_bytes : (byte : Option ℕ) (n o m : ℕ) (bs ys : List SeenBlock) → n < length bs
    → shown_bytes_of m (blocks_after_store byte n o bs ++ ys) ≡ shown_at byte (Inside n o) m (shown_bytes_of m (bs ++ ys))
block_bytes byte n o m [] ys low = absurd (omega (arith, low))
block_bytes byte zero o zero (b ∷ bs) ys low = refl
block_bytes byte zero o (suc m) (b ∷ bs) ys low = rw (ne_eqb (suc m) 0 (omega arith)) refl
block_bytes byte (suc n) o zero (b ∷ bs) ys low = rw (ne_eqb 0 (suc n) (omega arith)) refl
block_bytes byte (suc n) o (suc m) (b ∷ bs) ys low =
    block_bytes byte n o m bs ys (omega (arith, low)) ∙ ap (λ (t : Bool). if t then option_map (word_shown byte o 0) (shown_bytes_of m (bs ++ ys)) else shown_bytes_of m (bs ++ ys)) (same n m) where
      same : (n m : ℕ) → nat_eq m n ≡ nat_eq (suc m) (suc n)
      same n m = elim (cases_Bool (nat_eq m n)) [
        | inl is ↦ let e : m ≡ n = eqb-true m n is in rw is (sym (eq-eqb (suc m) (suc n) (omega (arith, e))))
        | inr not ↦ rw not (sym (false_from_ne_true (nat_eq (suc m) (suc n)) (λ is.
            let e : suc m ≡ suc n = eqb-true (suc m) (suc n) is in
            false≢true (sym not ∙ eq-eqb m n (omega (arith, e))))))
      ]

pub shown_bytes : (byte : Option ℕ) (x : Anchor) (m : ℕ) (bs ys : List SeenBlock) → IsBeforeBlock (length bs) x
    → shown_bytes_of m (place_shown byte x bs ++ ys) ≡ shown_at byte x m (shown_bytes_of m (bs ++ ys))
shown_bytes byte (Fixed a) m bs ys before = refl
shown_bytes byte (Inside n o) m bs ys before = block_bytes byte n o m bs ys before

pub shown_past : (byte : Option ℕ) (x : Anchor) (k m : ℕ) (shown : Option (List (Option ℕ))) → IsBeforeBlock k x → k ≤ m → shown_at byte x m shown ≡ shown
shown_past byte (Fixed a) k m shown before past = refl
shown_past byte (Inside n o) k m shown before past = rw (ne_eqb m n (omega (arith, before, past))) refl

-- a name by the place of its word
pub map_some : {A B : Type 0} (f : A → B) (o : Option A) (y : B) → option_map f o ≡ Some y → (x : A) × ((o ≡ Some x) × (f x ≡ y))
map_some f None y e = absurd (none_some y e)
map_some f (Some x) y e = (x, (refl, some_same (f x) y e))

pub one_word : (p : List SeenBlock) (y z : Name) (x : Anchor) → place_named p y ≡ Some x → place_named p z ≡ Some x → y ≡ z
one_word p (At a) (At c) x e f = ap At (fixed_same a c (some_same (Fixed a) x e ∙ sym (some_same (Fixed c) x f)))
one_word p (At a) (In z r) x e f =
    let t = map_some (λ n. Inside n r) (number_named p z) x f in
    absurd (fixed_inside a t.0 r (some_same (Fixed a) x e ∙ sym t.1.1))
one_word p (In y o) (At c) x e f =
    let s = map_some (λ n. Inside n o) (number_named p y) x e in
    absurd (fixed_inside c s.0 o (some_same (Fixed c) x f ∙ sym s.1.1))
one_word p (In y o) (In z r) x e f =
    let s = map_some (λ n. Inside n o) (number_named p y) x e in
    let t = map_some (λ n. Inside n r) (number_named p z) x f in
    let same : Inside s.0 o ≡ Inside t.0 r = s.1.1 ∙ sym t.1.1 in
    let number : s.0 ≡ t.0 = inside_number s.0 o t.0 r same in
    let offset : o ≡ r = inside_offset s.0 o t.0 r same in
    let holder : y ≡ z = one_name p y z s.0 s.1.0 (t.1.0 ∙ ap (λ (m : ℕ). let k : Option ℕ = Some m in k) (sym number)) in
    λ i. In (holder i) (offset i)

-- The block of a number and of a name shows the same, each byte of the word as shown.
pub shown_same : (p : List SeenBlock) (byte : Option ℕ) (name y : Name) (x : Anchor) (m : ℕ) (shown : Option (List (Option ℕ))) → place_named p name ≡ Some x
    → number_named p y ≡ Some m → shown_at byte x m shown ≡ shown_named byte name y shown
shown_same p byte (At a) y x m shown named is = ap (λ (w : Anchor). shown_at byte w m shown) (sym (some_same (Fixed a) x named))
shown_same p byte (In z o) y x m shown named is =
    let t = map_some (λ n. Inside n o) (number_named p z) x named in
    ap (λ (w : Anchor). shown_at byte w m shown) (sym t.1.1)
    ∙ ap (λ (b : Bool). if b then option_map (word_shown byte o 0) shown else shown) (same t.0 t.1.0) where
      same : (n : ℕ) → number_named p z ≡ Some n → nat_eq m n ≡ same_name y z
      same n at = elim (cases_Bool (same_name y z)) [
        | inl here ↦
            let e : m ≡ n = some_same m n (sym is ∙ (ap (number_named p) (name_is y z here) ∙ at)) in
            rw here (eq-eqb m n e)
        | inr other ↦ rw other (false_from_ne_true (nat_eq m n) (λ both.
            let e : y ≡ z = one_name p y z m is (at ∙ ap (λ (k : ℕ). let o : Option ℕ = Some k in o) (sym (eqb-true m n both))) in
            false≢true (sym other ∙ (ap (λ (w : Name). same_name w z) e ∙ name_self z))))
      ]

-- nothing is shown of a name that no block has
pub shown_none : (byte : Option ℕ) (name y : Name) → shown_named byte name y None ≡ None
shown_none byte (At a) y = refl
shown_none byte (In z o) y = elim (cases_Bool (same_name y z)) [ inl here ↦ rw here refl | inr other ↦ rw other refl ]
