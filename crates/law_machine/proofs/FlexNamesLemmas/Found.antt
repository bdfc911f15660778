-- Places and names that are the same, and the number of the block of a place.
use Rattle.std.proofs.Common.{◌≡◌, ℕ, suc, ◌≤◌, true, false, nat_eq, List, [], ◌∷◌, Option, None, Some, arith, refl, sym, ◌∙◌, ap, inl, inr}
use Rattle.std.specs.Option.{option_and_then}
use Rattle.std.proofs.lemmas.Bool.{and_parts, cases_Bool, eq-eqb, eqb-true, false_from_ne_true, false≢true}
use Rattle.law_machine.proofs.FlexLemmas.Apart.{fixed_inside, fixed_same, inside_number, inside_offset}
use Rattle.law_machine.specs.flex.Numbered.{Anchor, AreElsewhere, Fixed, Inside, SeenBlock}
use Rattle.law_machine.specs.flex_names.Names.{At, In, Name, number_from, number_named, same_name, same_place}

pub some_same : {A : Type 0} (a c : A) → Some a ≡ Some c → a ≡ c
some_same a c e = cc

pub none_some : {A : Type 0} (a : A) → None ≡ Some a → ⊥
none_some a e = cc

pub place_is : (x y : Anchor) → same_place x y ≡ true → x ≡ y
place_is (Fixed a) (Fixed c) is = ap Fixed (eqb-true a c is)
place_is (Fixed a) (Inside n p) is = absurd (false≢true is)
place_is (Inside m o) (Fixed c) is = absurd (false≢true is)
place_is (Inside m o) (Inside n p) is =
    let parts = and_parts (nat_eq m n) (nat_eq o p) is in
    let one : m ≡ n = eqb-true m n parts.0 in
    let two : o ≡ p = eqb-true o p parts.1 in
    λ i. Inside (one i) (two i)

pub place_self : (x : Anchor) → same_place x x ≡ true
place_self (Fixed a) = eq-eqb a a refl
place_self (Inside n o) = rw (eq-eqb n n refl, eq-eqb o o refl) refl

pub place_not : (x y : Anchor) → (x ≡ y → ⊥) → same_place x y ≡ false
place_not x y apart = false_from_ne_true (same_place x y) (λ is. apart (place_is x y is))

pub name_is : (y z : Name) → same_name y z ≡ true → y ≡ z
name_is (At a) (At c) is = ap At (eqb-true a c is)
name_is (At a) (In z p) is = absurd (false≢true is)
name_is (In y o) (At c) is = absurd (false≢true is)
name_is (In y o) (In z p) is =
    let parts = and_parts (same_name y z) (nat_eq o p) is in
    let one : y ≡ z = name_is y z parts.0 in
    let two : o ≡ p = eqb-true o p parts.1 in
    λ i. In (one i) (two i)

pub name_self : (y : Name) → same_name y y ≡ true
name_self (At a) = eq-eqb a a refl
name_self (In y o) = rw (name_self y, eq-eqb o o refl) refl

pub name_not : (y z : Name) → (y ≡ z → ⊥) → same_name y z ≡ false
name_not y z apart = false_from_ne_true (same_name y z) (λ is. apart (name_is y z is))

-- a block that is found has a number among those of the list
pub number_low : (n m : ℕ) (x : Anchor) (bs : List SeenBlock) → number_from n x bs ≡ Some m → n ≤ m
number_low n m x [] e = absurd (none_some m e)
number_low n m x (b ∷ bs) e = elim (cases_Bool (same_place b.anchor x)) [
  | inl here ↦ let same : n ≡ m = some_same n m (rw here at e) in omega (arith, same)
  | inr other ↦ let low : suc n ≤ m = number_low (suc n) m x bs (rw other at e) in omega (arith, low)
]

-- the anchor of a block of a number is one
pub one_place : (n m : ℕ) (x y : Anchor) (bs : List SeenBlock) → number_from n x bs ≡ Some m → number_from n y bs ≡ Some m → x ≡ y
one_place n m x y [] e f = absurd (none_some m e)
one_place n m x y (b ∷ bs) e f = elim (cases_Bool (same_place b.anchor x)) [
  | inl one ↦ elim (cases_Bool (same_place b.anchor y)) [
    | inl two ↦ sym (place_is b.anchor x one) ∙ place_is b.anchor y two
    | inr other ↦
        let same : n ≡ m = some_same n m (rw one at e) in
        let low : suc n ≤ m = number_low (suc n) m y bs (rw other at f) in
        absurd (omega (arith, same, low))
  ]
  | inr none ↦ elim (cases_Bool (same_place b.anchor y)) [
    | inl two ↦
        let same : n ≡ m = some_same n m (rw two at f) in
        let low : suc n ≤ m = number_low (suc n) m x bs (rw none at e) in
        absurd (omega (arith, same, low))
    | inr other ↦ one_place (suc n) m x y bs (rw none at e) (rw other at f)
  ]
]

-- none has the anchor of a block that is elsewhere
pub elsewhere_none : (n : ℕ) (x : Anchor) (bs : List SeenBlock) → AreElsewhere x bs → number_from n x bs ≡ None
elsewhere_none n x [] apart = refl
elsewhere_none n x (b ∷ bs) apart = rw (place_not b.anchor x apart.0) (elsewhere_none (suc n) x bs apart.1)

-- what is found by two steps
pub then_some : {A B : Type 0} (f : A → Option B) (o : Option A) (y : B) → option_and_then f o ≡ Some y → (x : A) × ((o ≡ Some x) × (f x ≡ Some y))
then_some f None y e = absurd (none_some y e)
then_some f (Some x) y e = (x, (refl, e))

at_in : (p : List SeenBlock) (a n : ℕ) (z : Name) (o : ℕ) → number_named p (At a) ≡ Some n → number_named p (In z o) ≡ Some n → ⊥
at_in p a n z o e f =
    let t = then_some (λ m. number_from 0 (Inside m o) p) (number_named p z) n f in
    fixed_inside a t.0 o (one_place 0 n (Fixed a) (Inside t.0 o) p e t.1.1)

pub one_name : (p : List SeenBlock) (y z : Name) (n : ℕ) → number_named p y ≡ Some n → number_named p z ≡ Some n → y ≡ z
one_name p (At a) (At c) n e f = ap At (fixed_same a c (one_place 0 n (Fixed a) (Fixed c) p e f))
one_name p (At a) (In z o) n e f = absurd (at_in p a n z o e f)
one_name p (In z o) (At a) n e f = absurd (at_in p a n z o f e)
one_name p (In y o) (In z r) n e f =
    let s = then_some (λ m. number_from 0 (Inside m o) p) (number_named p y) n e in
    let t = then_some (λ m. number_from 0 (Inside m r) p) (number_named p z) n f in
    let same : Inside s.0 o ≡ Inside t.0 r = one_place 0 n (Inside s.0 o) (Inside t.0 r) p s.1.1 t.1.1 in
    let number : s.0 ≡ t.0 = inside_number s.0 o t.0 r same in
    let offset : o ≡ r = inside_offset s.0 o t.0 r same in
    let holder : y ≡ z = one_name p y z s.0 s.1.0 (t.1.0 ∙ ap (λ (m : ℕ). let k : Option ℕ = Some m in k) (sym number)) in
    λ i. In (holder i) (offset i)
