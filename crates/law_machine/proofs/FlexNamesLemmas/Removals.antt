-- A block that goes, by names.
use Rattle.std.proofs.Common.{◌≡◌, ℕ, Bool, zero, suc, ◌+◌, ◌-◌, ◌<◌, ◌≤◌, ◌&&◌, false, nat_eq, List, [], ◌∷◌, ◌++◌, length, Option, None, Some, arith, refl, sym, ◌∙◌, ap, inl, inr, subst}
use Rattle.std.specs.Prelude.{nat_lt, if◌then◌else◌}
use Rattle.std.specs.Option.{option_and_then}
use Rattle.std.proofs.lemmas.Bool.{cases_Bool, cases_lt, eq-eqb, eqb-true, false_from_ne_true, false≢true, le-ltb, lt-ltb, ne_eqb}
use Rattle.law_machine.specs.flex.Numbered.{after_removal, Anchor, AreNumbered, Fixed, Inside, IsBeforeBlock, IsRemovedSeen, SeenBlock, with_places}
use Rattle.law_machine.specs.flex_names.Laws.{ReleaseGoesByNames}
use Rattle.law_machine.specs.flex_names.Names.{At, shown_bytes_of, contents_named, In, Name, number_from, number_named, place_named, same_name, same_place, shown_named}
use Rattle.law_machine.proofs.FlexNamesLemmas.Found.{elsewhere_none, name_is, name_self, one_name, place_is}
use Rattle.law_machine.proofs.FlexNamesLemmas.Moving.{bytes_with, Every, found_at, named_by_place, none_first, seen_block}
use Rattle.law_machine.proofs.FlexNamesLemmas.Reported.{shown_at, shown_bytes, shown_none, shown_numbers, shown_past, shown_same}

-- the number that a block has after that of a number went
abbrev down : ℕ → ℕ → Option ℕ
down k m = if nat_lt m k then Some m else if nat_eq m k then None else Some (m - 1)

down_low : (k m : ℕ) → m < k → down k m ≡ Some m
down_low k m low = rw (lt-ltb m k low) refl

down_own : (k m : ℕ) → m ≡ k → down k m ≡ None
down_own k m same = rw (le-ltb m k (omega (arith, same)), eq-eqb m k same) refl

down_high : (k n : ℕ) → k ≤ n → down k (suc n) ≡ Some n
down_high k n high =
    let e : suc n - 1 ≡ n = omega arith in
    rw (le-ltb (suc n) k (omega (arith, high)), ne_eqb (suc n) k (omega (arith, high))) (ap (λ (m : ℕ). let o : Option ℕ = Some m in o) e)

-- no anchor is in the block of a number
abbrev IsOut : ℕ → Anchor → Type 0
IsOut k c = (o : ℕ) → same_place c (Inside k o) ≡ false

out_each : (n k : ℕ) (bs : List SeenBlock) → ((o : ℕ) → number_from n (Inside k o) bs ≡ None) → Every (IsOut k) bs
out_each n k [] none = tt
out_each n k (b ∷ bs) none = (
  λ o. (none_first n (Inside k o) b bs (none o)).0,
  out_each (suc n) k bs (λ o. (none_first n (Inside k o) b bs (none o)).1),
)

out_number : (k n o : ℕ) → IsOut k (Inside n o) → n ≡ k → ⊥
out_number k n o out same = false≢true (sym (out o) ∙ rw (eq-eqb n k same, eq-eqb o o refl) refl)

out_other : (k m o : ℕ) → (m ≡ k → ⊥) → IsOut k (Inside m o)
out_other k m o apart p = rw (ne_eqb m k apart) refl

less_alike : (m n : ℕ) → 0 < m → 0 < n → nat_eq (m - 1) (n - 1) ≡ nat_eq m n
less_alike m n one two = elim (cases_Bool (nat_eq m n)) [
  | inl is ↦ let e : m ≡ n = eqb-true m n is in rw is (eq-eqb (m - 1) (n - 1) (omega (arith, e)))
  | inr differ ↦ rw differ (false_from_ne_true (nat_eq (m - 1) (n - 1)) (λ is.
      let e : m - 1 ≡ n - 1 = eqb-true (m - 1) (n - 1) is in
      false≢true (sym differ ∙ eq-eqb m n (omega (arith, e, one, two)))))
]

removal_alike : (k : ℕ) (c y : Anchor) → IsOut k c → IsOut k y → same_place (after_removal k c) (after_removal k y) ≡ same_place c y
removal_alike k (Fixed a) (Fixed w) one two = refl
removal_alike k (Fixed a) (Inside n p) one two = elim (cases_Bool (nat_lt k n)) [ inl here ↦ rw here refl | inr other ↦ rw other refl ]
removal_alike k (Inside m o) (Fixed w) one two = elim (cases_Bool (nat_lt k m)) [ inl here ↦ rw here refl | inr other ↦ rw other refl ]
removal_alike k (Inside m o) (Inside n p) one two =
    let no_m = out_number k m o one in
    let no_n = out_number k n p two in
    elim (cases_lt k m) [
      | inl up ↦ elim (cases_lt k n) [
        | inl high ↦ rw (lt-ltb k m up, lt-ltb k n high) (ap (λ (b : Bool). b && nat_eq o p) (less_alike m n (omega (arith, up)) (omega (arith, high))))
        | inr low ↦ rw (lt-ltb k m up, le-ltb k n low, ne_eqb (m - 1) n (omega (arith, up, low, no_n)), ne_eqb m n (omega (arith, up, low))) refl
      ]
      | inr down ↦ elim (cases_lt k n) [
        | inl high ↦ rw (le-ltb k m down, lt-ltb k n high, ne_eqb m (n - 1) (omega (arith, down, high, no_m)), ne_eqb m n (omega (arith, down, high))) refl
        | inr low ↦ rw (le-ltb k m down, le-ltb k n low) refl
      ]
    ]

before_same : (k m : ℕ) (c : Anchor) → m ≤ k → IsBeforeBlock m c → after_removal k c ≡ c
before_same k m (Fixed a) low before = refl
before_same k m (Inside n o) low before = rw (le-ltb k n (omega (arith, low, before))) refl

-- numbers after the block, and in the list
rest_numbers : (k n : ℕ) (y : Anchor) (bs : List SeenBlock) → k ≤ n → IsOut k y → Every (IsOut k) bs
    → number_from n (after_removal k y) (with_places (after_removal k) bs) ≡ option_and_then (down k) (number_from (suc n) y bs)
rest_numbers k n y [] high out all = refl
rest_numbers k n y (b ∷ bs) high out all =
    let same = removal_alike k b.anchor y all.0 out in
    elim (cases_Bool (same_place b.anchor y)) [
      | inl here ↦ rw (same, here) (sym (down_high k n high))
      | inr other ↦ rw (same, other) (rest_numbers k (suc n) y bs (omega (arith, high)) out all.1)
    ]

left_numbers : (k n : ℕ) (y : Anchor) (xs : List SeenBlock) (b : SeenBlock) (ys : List SeenBlock) → n + length xs ≡ k → AreNumbered n (xs ++ b ∷ ys) → IsOut k y
    → Every (IsOut k) (xs ++ b ∷ ys)
    → number_from n (after_removal k y) (xs ++ with_places (after_removal k) ys) ≡ option_and_then (down k) (number_from n y (xs ++ b ∷ ys))
left_numbers k n y [] b ys at numbered out all =
    let rest = rest_numbers k n y ys (omega (arith, at)) out all.1 in
    elim (cases_Bool (same_place b.anchor y)) [
      | inl here ↦
          let none : number_from (suc n) y ys ≡ None =
          ap (λ (z : Anchor). number_from (suc n) z ys) (sym (place_is b.anchor y here)) ∙ elsewhere_none (suc n) b.anchor ys numbered.1.0 in
          rw here (rest ∙ (ap (option_and_then (down k)) none ∙ sym (down_own k n (omega (arith, at)))))
      | inr other ↦ rw other rest
    ]
left_numbers k n y (c ∷ xs) b ys at numbered out all =
    let stays : after_removal k c.anchor ≡ c.anchor = before_same k n c.anchor (omega (arith, at)) numbered.0 in
    let same : same_place c.anchor (after_removal k y) ≡ same_place c.anchor y =
    ap (λ (z : Anchor). same_place z (after_removal k y)) (sym stays) ∙ removal_alike k c.anchor y all.0 out in
    elim (cases_Bool (same_place c.anchor y)) [
      | inl here ↦ rw (same, here) (sym (down_low k n (omega (arith, at))))
      | inr other ↦ rw (same, other) (left_numbers k (suc n) y xs b ys (omega (arith, at)) numbered.1.1 out all.1)
    ]

-- what the blocks before it show, and those after it
front_bytes : (m : ℕ) (xs ys zs : List SeenBlock) → m < length xs → shown_bytes_of m (xs ++ ys) ≡ shown_bytes_of m (xs ++ zs)
front_bytes m [] ys zs low = absurd (omega (arith, low))
front_bytes zero (b ∷ xs) ys zs low = refl
front_bytes (suc m) (b ∷ xs) ys zs low = front_bytes m xs ys zs (omega (arith, low))

rest_bytes : (go : Anchor → Anchor) (m : ℕ) (xs : List SeenBlock) (b : SeenBlock) (ys : List SeenBlock) → length xs ≤ m
    → shown_bytes_of m (xs ++ with_places go ys) ≡ shown_bytes_of (suc m) (xs ++ b ∷ ys)
rest_bytes go m [] b ys high = bytes_with go m ys
rest_bytes go zero (c ∷ xs) b ys high = absurd (omega (arith, high))
rest_bytes go (suc m) (c ∷ xs) b ys high = rest_bytes go m xs b ys (omega (arith, high))

own_before : (n : ℕ) (xs : List SeenBlock) (b : SeenBlock) (ys : List SeenBlock) → AreNumbered n (xs ++ b ∷ ys) → IsBeforeBlock (n + length xs) b.anchor
own_before n [] b ys numbered = let e : n ≡ n + 0 = omega arith in subst (λ (m : ℕ). IsBeforeBlock m b.anchor) e numbered.0
own_before n (c ∷ xs) b ys numbered =
    let e : suc n + length xs ≡ n + suc (length xs) = omega arith in
    subst (λ (m : ℕ). IsBeforeBlock m b.anchor) e (own_before (suc n) xs b ys numbered.1.1)

module _ (p q : List SeenBlock) (x : Anchor) (name : Name) (numbered : AreNumbered 0 p) (named : place_named p name ≡ Some x)
    (by : IsRemovedSeen x p q) (free : (o : ℕ) → number_named p (In name o) ≡ None) where
  own_number : number_named p name ≡ Some (length by.front)
  own_number =
      let e : 0 + length by.front ≡ length by.front = omega arith in
      named_by_place p name x named
      ∙ (ap (number_from 0 x) by.was
      ∙ (found_at 0 by.front (seen_block x by.own) by.rest (rw by.was at numbered) ∙ ap (λ (n : ℕ). let o : Option ℕ = Some n in o) e))

  in_own : (o : ℕ) → number_from 0 (Inside (length by.front) o) p ≡ None
  in_own o = sym (ap (option_and_then (λ n. number_from 0 (Inside n o) p)) own_number) ∙ free o

  each_out : Every (IsOut (length by.front)) p
  each_out = out_each 0 (length by.front) p in_own

  gone : (y : Anchor) → IsOut (length by.front) y
      → number_from 0 (after_removal (length by.front) y) q ≡ option_and_then (down (length by.front)) (number_from 0 y p)
  gone y out =
      let k = length by.front in
      ap (number_from 0 (after_removal k y)) by.now
      ∙ (shown_numbers (Some 0) x 0 (after_removal k y) by.front (with_places (after_removal k) by.rest)
      ∙ (left_numbers k 0 y by.front (seen_block x by.own) by.rest (omega arith) (rw by.was at numbered) out (rw by.was at each_out)
      ∙ ap (λ (l : List SeenBlock). option_and_then (down k) (number_from 0 y l)) (sym by.was)))

  within : (m o : ℕ) → option_and_then (λ n. number_from 0 (Inside n o) q) (down (length by.front) m)
      ≡ option_and_then (down (length by.front)) (number_from 0 (Inside m o) p)
  within m o =
      let k = length by.front in
      elim (cases_lt m k) [
        | inl low ↦ rw (down_low k m low) (ap (λ (y : Anchor). number_from 0 y q) (sym (stays k low)) ∙ gone (Inside m o) (out_other k m o (omega (arith, low))))
        | inr from ↦ elim (cases_lt k m) [
          | inl high ↦ rw (above k high) (ap (λ (y : Anchor). number_from 0 y q) (sym (moves k high)) ∙ gone (Inside m o) (out_other k m o (omega (arith, high))))
          | inr to ↦
              let same : m ≡ k = omega (arith, from, to) in
              rw (down_own k m same) (sym (ap (λ (n : ℕ). option_and_then (down k) (number_from 0 (Inside n o) p)) same ∙ ap (option_and_then (down k)) (in_own o)))
        ]
      ] where
        stays : (k : ℕ) → m < k → after_removal k (Inside m o) ≡ Inside m o
        stays k low = rw (le-ltb k m (omega (arith, low))) refl

        moves : (k : ℕ) → k < m → after_removal k (Inside m o) ≡ Inside (m - 1) o
        moves k high = rw (lt-ltb k m high) refl

        above : (k : ℕ) → k < m → down k m ≡ Some (m - 1)
        above k high = rw (le-ltb m k (omega (arith, high)), ne_eqb m k (omega (arith, high))) refl

  left_names : (y : Name) → number_named q y ≡ option_and_then (down (length by.front)) (number_named p y)
  left_names (At a) = gone (Fixed a) (λ o. refl)
  left_names (In z o) = ap (option_and_then (λ n. number_from 0 (Inside n o) q)) (left_names z) ∙ step (number_named p z) where
    step : (m : Option ℕ) → option_and_then (λ n. number_from 0 (Inside n o) q) (option_and_then (down (length by.front)) m)
        ≡ option_and_then (down (length by.front)) (option_and_then (λ n. number_from 0 (Inside n o) p) m)
    step None = refl
    step (Some m) = within m o

  shows : (y : Name) → same_name y name ≡ false → (m : Option ℕ) → number_named p y ≡ m
      → option_and_then (λ n. shown_bytes_of n q) (option_and_then (down (length by.front)) m) ≡ shown_named (Some 0) name y (option_and_then (λ n. shown_bytes_of n p) m)
  shows y apart None is = sym (shown_none (Some 0) name y)
  shows y apart (Some m) is =
      let k = length by.front in
      let before : IsBeforeBlock (0 + k) x = own_before 0 by.front (seen_block x by.own) by.rest (rw by.was at numbered) in
      let e : 0 + k ≡ k = omega arith in
      go (subst (λ (n : ℕ). IsBeforeBlock n x) e before) ∙ shown_same p (Some 0) name y x m (shown_bytes_of m p) named is where
        at : (n : ℕ) → IsBeforeBlock (length by.front) x
            → shown_bytes_of n q ≡ shown_at (Some 0) x n (shown_bytes_of n (by.front ++ with_places (after_removal (length by.front)) by.rest))
        at n before = ap (shown_bytes_of n) by.now ∙ shown_bytes (Some 0) x n by.front (with_places (after_removal (length by.front)) by.rest) before

        go : IsBeforeBlock (length by.front) x → option_and_then (λ n. shown_bytes_of n q) (down (length by.front) m) ≡ shown_at (Some 0) x m (shown_bytes_of m p)
        go before =
            let k = length by.front in
            elim (cases_lt m k) [
              | inl low ↦
                  rw (down_low k m low) (at m before ∙ ap (shown_at (Some 0) x m)
                  (front_bytes m by.front (with_places (after_removal k) by.rest) (seen_block x by.own ∷ by.rest) low ∙ ap (shown_bytes_of m) (sym by.was)))
              | inr from ↦ elim (cases_lt k m) [
                | inl high ↦
                    let n = m - 1 in
                    let more : suc n ≡ m = omega (arith, high) in
                    let past : k ≤ n = omega (arith, high) in
                    let below : down k m ≡ Some n = ap (down k) (sym more) ∙ down_high k n past in
                    let rest : shown_bytes_of n (by.front ++ with_places (after_removal k) by.rest) ≡ shown_bytes_of m p =
                    rest_bytes (after_removal k) n by.front (seen_block x by.own) by.rest past ∙ (ap (shown_bytes_of (suc n)) (sym by.was) ∙ ap (λ (i : ℕ). shown_bytes_of i p) more) in
                    rw below (at n before ∙ (shown_past (Some 0) x k n (shown_bytes_of n (by.front ++ with_places (after_removal k) by.rest)) before past
                    ∙ (rest ∙ sym (shown_past (Some 0) x k m (shown_bytes_of m p) before from))))
                | inr to ↦
                    let same : m ≡ k = omega (arith, from, to) in
                    let e : y ≡ name = one_name p y name k (is ∙ ap (λ (i : ℕ). let o : Option ℕ = Some i in o) same) own_number in
                    absurd (false≢true (sym apart ∙ (ap (λ (n : Name). same_name n name) e ∙ name_self name)))
              ]
            ]

  own_gone : contents_named q name ≡ None
  own_gone =
      let number : number_named q name ≡ None =
      left_names name ∙ (ap (option_and_then (down (length by.front))) own_number ∙ down_own (length by.front) (length by.front) refl) in
      rw number refl

pub release_goes_by_names : ReleaseGoesByNames
release_goes_by_names p q x name numbered named by free y = elim (cases_Bool (same_name y name)) [
  | inl own ↦ rw own (ap (contents_named q) (name_is y name own) ∙ own_gone p q x name numbered named by free)
  | inr apart ↦ rw apart (ap (option_and_then (λ n. shown_bytes_of n q)) (left_names p q x name numbered named by free y)
      ∙ shows p q x name numbered named by free y apart (number_named p y) refl)
]
