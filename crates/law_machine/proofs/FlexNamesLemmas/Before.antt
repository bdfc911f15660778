-- Names before a splice: those no longer than the name of its block are as they were.
use Rattle.std.proofs.Common.{◌≡◌, ℕ, suc, ◌<◌, ◌≤◌, false, List, Option, None, Some, arith, refl, sym, ◌∙◌, ap, inl, inr}
use Rattle.std.specs.Option.{option_and_then, option_map}
use Rattle.std.proofs.lemmas.Bool.{cases_Bool, false≢true}
use Rattle.law_machine.specs.flex.Numbered.{Fixed, Inside, SeenBlock}
use Rattle.law_machine.specs.flex_names.Names.{At, In, Name, name_before, number_from, number_named, offset_before, same_name}
use Rattle.law_machine.proofs.FlexNamesLemmas.Found.{name_is, name_not, name_self, none_some, one_name, some_same}

abbrev pub depth : Name → ℕ
depth (At a) = 0
depth (In y o) = suc (depth y)

pub deeper : (y z : Name) → depth y < depth z → y ≡ z → ⊥
deeper y z less same = let e : depth y ≡ depth z = ap depth same in omega (arith, less, e)

module _ (x : Name) (place cut more : ℕ) where
  pub stays : (y : Name) → depth y ≤ depth x → name_before x place cut more y ≡ Some y
  stays (At a) low = refl
  stays (In y o) low =
      let other : same_name y x ≡ false = name_not y x (deeper y x (omega (arith, low))) in
      rw (other, stays y (omega (arith, low))) refl

  pub was_same : (y z : Name) → name_before x place cut more y ≡ Some z → depth z ≤ depth x → y ≡ z
  was_same (At a) z e low = some_same (At a) z e
  was_same (In y o) z e low = elim (cases_Bool (same_name y x)) [
    | inl own ↦ absurd (gap (offset_before place cut more o) (rw own at e))
    | inr other ↦ by (λ w less is. was_same y w is less) (name_before x place cut more y) refl (rw other at e)
  ] where
    gap : (m : Option ℕ) → option_map (In x) m ≡ Some z → ⊥
    gap None e = none_some z e
    gap (Some p) e = let d : suc (depth x) ≡ depth z = ap depth (some_same (In x p) z e) in omega (arith, low, d)

    by : ((w : Name) → depth w ≤ depth x → name_before x place cut more y ≡ Some w → y ≡ w) → (m : Option Name) → name_before x place cut more y ≡ m
        → option_map (λ w. In w o) m ≡ Some z → In y o ≡ z
    by earlier None is e = absurd (none_some z e)
    by earlier (Some w) is e =
        let same : In w o ≡ z = some_same (In w o) z e in
        let d : suc (depth w) ≡ depth z = ap depth same in
        ap (λ (v : Name). In v o) (earlier w (omega (arith, low, d)) is) ∙ same

-- The numbers of names after a splice, by those before it, where the block of a name has a number,
-- and where places of words in it and elsewhere have numbers as shown.
module _ (p q : List SeenBlock) (x : Name) (k place cut more : ℕ) (own : number_named p x ≡ Some k)
    (fixed : (a : ℕ) → number_from 0 (Fixed a) q ≡ number_from 0 (Fixed a) p)
    (other : (m o : ℕ) → (m ≡ k → ⊥) → number_from 0 (Inside m o) q ≡ number_from 0 (Inside m o) p)
    (within : (o : ℕ) → number_from 0 (Inside k o) q ≡ option_and_then (λ r. number_from 0 (Inside k r) p) (offset_before place cut more o)) where
  pub not_own : (y w : Name) (m : ℕ) → name_before x place cut more y ≡ Some w → same_name y x ≡ false → number_named p w ≡ Some m → m ≡ k → ⊥
  not_own y w m was apart is same =
      let at_own : w ≡ x = one_name p w x k (is ∙ ap (λ (n : ℕ). let o : Option ℕ = Some n in o) same) own in
      let e : y ≡ x = was_same x place cut more y x (was ∙ ap (λ (n : Name). let o : Option Name = Some n in o) at_own) (omega arith) in
      false≢true (sym apart ∙ (ap (λ (n : Name). same_name n x) e ∙ name_self x))

  pub numbers : (y : Name) → number_named q y ≡ option_and_then (number_named p) (name_before x place cut more y)
  numbers (At a) = fixed a
  numbers (In y o) = step (numbers y) where
    in_own : (m : Option ℕ) → option_and_then (λ r. number_from 0 (Inside k r) p) m ≡ option_and_then (number_named p) (option_map (In x) m)
    in_own None = refl
    in_own (Some r) = rw own refl

    in_other : (w : Name) (m : Option ℕ) → number_named p w ≡ m → ((n : ℕ) → m ≡ Some n → n ≡ k → ⊥)
        → option_and_then (λ n. number_from 0 (Inside n o) q) m ≡ option_and_then (λ n. number_from 0 (Inside n o) p) m
    in_other w None is apart = refl
    in_other w (Some n) is apart = other n o (apart n refl)

    beside : (z : Option Name) → name_before x place cut more y ≡ z → same_name y x ≡ false
        → option_and_then (λ n. number_from 0 (Inside n o) q) (option_and_then (number_named p) z) ≡ option_and_then (number_named p) (option_map (λ w. In w o) z)
    beside None was apart = refl
    beside (Some w) was apart = in_other w (number_named p w) refl (λ n is. not_own y w n was apart is)

    step : number_named q y ≡ option_and_then (number_named p) (name_before x place cut more y)
        → number_named q (In y o) ≡ option_and_then (number_named p) (name_before x place cut more (In y o))
    step before = elim (cases_Bool (same_name y x)) [
      | inl here ↦
          let same : y ≡ x = name_is y x here in
          let was : name_before x place cut more y ≡ Some x =
          ap (name_before x place cut more) same ∙ stays x place cut more x (omega arith) in
          let number : number_named q y ≡ Some k = before ∙ (ap (option_and_then (number_named p)) was ∙ own) in
          rw (number, here) (within o ∙ in_own (offset_before place cut more o))
      | inr apart ↦ rw apart (ap (option_and_then (λ n. number_from 0 (Inside n o) q)) before ∙ beside (name_before x place cut more y) refl apart)
    ]
