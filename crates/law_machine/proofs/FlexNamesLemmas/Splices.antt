-- A splice by names.
use Rattle.std.proofs.Common.{◌≡◌, ℕ, Bool, ◌+◌, ◌-◌, ◌<◌, ◌≤◌, ◌&&◌, true, false, nat_eq, List, length, Option, None, Some, arith, refl, sym, ◌∙◌, ap, inl, inr}
use Rattle.std.specs.Prelude.{nat_le}
use Rattle.std.specs.Option.{option_and_then, option_map}
use Rattle.std.proofs.lemmas.Bool.{and_parts, cases_Bool, cases_lt, eq-eqb, eqb-true, false_from_ne_true, false≢true, leb-true, le-leb, le-ltb, lt-ltb, ne_eqb}
use Rattle.law_machine.specs.flex.Numbered.{after_splice, Anchor, AreNumbered, Fixed, Inside, IsBeforeBlock, IsSplicedSeen, SeenBlock, with_places}
use Rattle.law_machine.specs.flex.Seen.{seen_spliced}
use Rattle.law_machine.specs.flex_names.Laws.{SpliceGoesByNames}
use Rattle.law_machine.specs.flex_names.Names.{shown_bytes_of, contents_named, In, Name, name_before, number_from, number_named, offset_before, place_named, same_name, same_place}
use Rattle.law_machine.proofs.FlexNamesLemmas.Before.{not_own, numbers, stays}
use Rattle.law_machine.proofs.FlexNamesLemmas.Found.{name_is}
use Rattle.law_machine.proofs.FlexNamesLemmas.Moving.{alike, bytes_else, bytes_own, Every, every_map, found_at, free_each, front_stays, IsFree, named_by_place, none_goes, own_else, seen_block}

module _ (k place cut more : ℕ) where
  before_stays : (c : Anchor) (m : ℕ) → m ≤ k → IsBeforeBlock m c → after_splice k place cut more c ≡ c
  before_stays (Fixed a) m low before = refl
  before_stays (Inside n o) m low before = rw (ne_eqb n k (omega (arith, low, before))) refl

  fixed_alike : (a : ℕ) (c : Anchor) → same_place (after_splice k place cut more c) (Fixed a) ≡ same_place c (Fixed a)
  fixed_alike a (Fixed w) = refl
  fixed_alike a (Inside n o) = elim (cases_Bool (nat_eq n k && nat_le place o)) [ inl own ↦ rw own refl | inr other ↦ rw other refl ]

  other_alike : (m p : ℕ) → (m ≡ k → ⊥) → (c : Anchor) → same_place (after_splice k place cut more c) (Inside m p) ≡ same_place c (Inside m p)
  other_alike m p apart (Fixed w) = refl
  other_alike m p apart (Inside n o) = elim (cases_Bool (nat_eq n k && nat_le place o)) [
    | inl own ↦
        let same : n ≡ k = eqb-true n k (and_parts (nat_eq n k) (nat_le place o) own).0 in
        rw (own, ne_eqb n m (omega (arith, apart, same))) refl
    | inr other ↦ rw other refl
  ]

  -- in the block itself: by where the offset is
  own_low : (p : ℕ) → p < place - cut → (c : Anchor) → same_place (after_splice k place cut more c) (Inside k p) ≡ same_place c (Inside k p)
  own_low p low (Fixed w) = refl
  own_low p low (Inside n o) = elim (cases_Bool (nat_eq n k && nat_le place o)) [
    | inl own ↦
        let parts = and_parts (nat_eq n k) (nat_le place o) own in
        let high : place ≤ o = leb-true place o parts.1 in
        rw (own, ne_eqb (place - cut + more + (o - place)) p (omega (arith, low)), ne_eqb o p (omega (arith, low, high))) refl
    | inr other ↦ rw other refl
  ]

  own_none : (p : ℕ) → place - cut ≤ p → p < place - cut + more → (c : Anchor) → IsFree k (place - cut) place c
      → same_place (after_splice k place cut more c) (Inside k p) ≡ false
  own_none p low high (Fixed w) free = refl
  own_none p low high (Inside n o) free = elim (cases_Bool (nat_eq n k && nat_le place o)) [
    | inl own ↦ rw (own, ne_eqb (place - cut + more + (o - place)) p (omega (arith, high))) (and_false (nat_eq n k))
    | inr other ↦ elim (cases_lt p place) [
      | inl within ↦ rw other (free p low within)
      | inr past ↦ rw other (behind n o p past other)
    ]
  ] where
    and_false : (b : Bool) → (b && false) ≡ false
    and_false true = refl
    and_false false = refl

    behind : (n o p : ℕ) → place ≤ p → (nat_eq n k && nat_le place o) ≡ false → (nat_eq n k && nat_eq o p) ≡ false
    behind n o p past other = false_from_ne_true (nat_eq n k && nat_eq o p) (λ is.
        let parts = and_parts (nat_eq n k) (nat_eq o p) is in
        let same : o ≡ p = eqb-true o p parts.1 in
        false≢true (sym other ∙ rw (parts.0, le-leb place o (omega (arith, same, past))) refl))

  alike_offsets : (o p : ℕ) → place - cut + more ≤ p → place ≤ o
      → nat_eq (place - cut + more + (o - place)) p ≡ nat_eq o (place + (p - (place - cut + more)))
  alike_offsets o p high from = elim (cases_Bool (nat_eq o (place + (p - (place - cut + more))))) [
    | inl is ↦
        let e : o ≡ place + (p - (place - cut + more)) = eqb-true o (place + (p - (place - cut + more))) is in
        rw is (eq-eqb (place - cut + more + (o - place)) p (omega (arith, e, high)))
    | inr differ ↦
        rw differ (false_from_ne_true (nat_eq (place - cut + more + (o - place)) p) (λ is.
        let e : place - cut + more + (o - place) ≡ p = eqb-true (place - cut + more + (o - place)) p is in
        let same : o ≡ place + (p - (place - cut + more)) = omega (arith, e, from) in
        false≢true (sym differ ∙ eq-eqb o (place + (p - (place - cut + more))) same)))
  ]

  own_high : (p : ℕ) → place - cut + more ≤ p → (c : Anchor) → IsFree k (place - cut) place c
      → same_place (after_splice k place cut more c) (Inside k p) ≡ same_place c (Inside k (place + (p - (place - cut + more))))
  own_high p high (Fixed w) free = refl
  own_high p high (Inside n o) free = elim (cases_Bool (nat_eq n k && nat_le place o)) [
    | inl own ↦
        let parts = and_parts (nat_eq n k) (nat_le place o) own in
        let from : place ≤ o = leb-true place o parts.1 in
        rw own (ap (λ (b : Bool). nat_eq n k && b) (alike_offsets o p high from))
    | inr other ↦ rw other (both n o other free)
  ] where
    both : (n o : ℕ) → (nat_eq n k && nat_le place o) ≡ false → IsFree k (place - cut) place (Inside n o)
        → (nat_eq n k && nat_eq o p) ≡ (nat_eq n k && nat_eq o (place + (p - (place - cut + more))))
    both n o other free = elim (cases_Bool (nat_eq n k)) [
      | inr elsewhere ↦ rw elsewhere refl
      | inl here ↦ elim (cases_lt o place) [
        | inr past ↦ absurd (false≢true (sym other ∙ rw (here, le-leb place o past) refl))
        | inl below ↦ elim (cases_lt o (place - cut)) [
          | inl low ↦ rw (here, ne_eqb o p (omega (arith, low, high)), ne_eqb o (place + (p - (place - cut + more))) (omega (arith, below))) refl
          | inr in_cut ↦ absurd (false≢true (sym (free o in_cut below) ∙ rw (here, eq-eqb o o refl) refl))
        ]
      ]
    ]

-- over the lists of a splice
pub splice_numbers : (p q : List SeenBlock) (x : Anchor) (size place cut more : ℕ) → AreNumbered 0 p → (by : IsSplicedSeen x size place cut more p q) → (y : Anchor)
    → number_from 0 y q ≡ number_from 0 y (with_places (after_splice (length by.front) place cut more) p)
splice_numbers p q x size place cut more numbered by y =
    let k = length by.front in
    let own : SeenBlock = seen_block x by.own in
    ap (number_from 0 y) by.now
    ∙ (own_else 0 y x (seen_spliced by.own place cut more) by.own by.front (with_places (after_splice k place cut more) by.rest)
    ∙ (ap (number_from 0 y) (sym (front_stays (after_splice k place cut more) k (before_stays k place cut more) 0 by.front own by.rest (omega arith) (rw by.was at numbered)))
    ∙ ap (λ (l : List SeenBlock). number_from 0 y (with_places (after_splice k place cut more) l)) (sym by.was)))

pub spliced_number : (p q : List SeenBlock) (x : Anchor) (size place cut more : ℕ) (name : Name) → AreNumbered 0 p → place_named p name ≡ Some x
    → (by : IsSplicedSeen x size place cut more p q) → number_named p name ≡ Some (length by.front)
spliced_number p q x size place cut more name numbered named by =
    let e : 0 + length by.front ≡ length by.front = omega arith in
    named_by_place p name x named
    ∙ (ap (number_from 0 x) by.was
    ∙ (found_at 0 by.front (seen_block x by.own) by.rest (rw by.was at numbered) ∙ ap (λ (n : ℕ). let o : Option ℕ = Some n in o) e))

module _ (p q : List SeenBlock) (x : Anchor) (size place cut more : ℕ) (name : Name) (numbered : AreNumbered 0 p) (named : place_named p name ≡ Some x)
    (by : IsSplicedSeen x size place cut more p q) (free : (o : ℕ) → place - cut ≤ o → o < place → number_named p (In name o) ≡ None) where
  own_number : number_named p name ≡ Some (length by.front)
  own_number = spliced_number p q x size place cut more name numbered named by

  each_free : Every (IsFree (length by.front) (place - cut) place) p
  each_free = free_each 0 (length by.front) (place - cut) place p (λ o low high.
      sym (ap (option_and_then (λ n. number_from 0 (Inside n o) p)) own_number) ∙ free o low high)

  moved_alike : (y z : Anchor)
      → ((c : Anchor) → IsFree (length by.front) (place - cut) place c → same_place (after_splice (length by.front) place cut more c) y ≡ same_place c z)
      → number_from 0 y q ≡ number_from 0 z p
  moved_alike y z same =
      splice_numbers p q x size place cut more numbered by y
      ∙ alike (after_splice (length by.front) place cut more) z y 0 p
      (every_map (IsFree (length by.front) (place - cut) place) (λ c. same_place (after_splice (length by.front) place cut more c) y ≡ same_place c z) same p each_free)

  moved_within : (o : ℕ) → number_from 0 (Inside (length by.front) o) q
      ≡ option_and_then (λ r. number_from 0 (Inside (length by.front) r) p) (offset_before place cut more o)
  moved_within o =
      let k = length by.front in
      elim (cases_lt o (place - cut)) [
        | inl low ↦ rw (lt-ltb o (place - cut) low) (moved_alike (Inside k o) (Inside k o) (λ c free. own_low k place cut more o low c))
        | inr from ↦ elim (cases_lt o (place - cut + more)) [
          | inl zeros ↦ rw (le-ltb o (place - cut) from, lt-ltb o (place - cut + more) zeros)
              (splice_numbers p q x size place cut more numbered by (Inside k o)
              ∙ none_goes (after_splice k place cut more) (Inside k o) 0 p
              (every_map (IsFree k (place - cut) place) (λ c. same_place (after_splice k place cut more c) (Inside k o) ≡ false)
              (λ c free. own_none k place cut more o from zeros c free) p each_free))
          | inr high ↦ rw (le-ltb o (place - cut) from, le-ltb o (place - cut + more) high)
              (moved_alike (Inside k o) (Inside k (place + (o - (place - cut + more)))) (λ c free. own_high k place cut more o high c free))
        ]
      ]

  moved_numbers : (y : Name) → number_named q y ≡ option_and_then (number_named p) (name_before name place cut more y)
  moved_numbers y = numbers p q name (length by.front) place cut more own_number
      (λ a. moved_alike (Fixed a) (Fixed a) (λ c free. fixed_alike (length by.front) place cut more a c))
      (λ m o apart. moved_alike (Inside m o) (Inside m o) (λ c free. other_alike (length by.front) place cut more m o apart c))
      moved_within y

  others_show : (m : ℕ) → (m ≡ length by.front → ⊥) → shown_bytes_of m q ≡ shown_bytes_of m p
  others_show m apart =
      ap (shown_bytes_of m) by.now
      ∙ (bytes_else (after_splice (length by.front) place cut more) m by.front (seen_block x by.own) (seen_block x (seen_spliced by.own place cut more)) by.rest apart
      ∙ ap (shown_bytes_of m) (sym by.was))

  own_shows : contents_named q name ≡ option_map (λ l. seen_spliced l place cut more) (contents_named p name)
  own_shows =
      let k = length by.front in
      let now : number_named q name ≡ Some k =
      moved_numbers name ∙ (ap (option_and_then (number_named p)) (stays name place cut more name (omega arith)) ∙ own_number) in
      let new : shown_bytes_of k q ≡ Some (seen_spliced by.own place cut more) =
      ap (shown_bytes_of k) by.now ∙ bytes_own by.front (seen_block x (seen_spliced by.own place cut more)) (with_places (after_splice k place cut more) by.rest) in
      let old : shown_bytes_of k p ≡ Some by.own = ap (shown_bytes_of k) by.was ∙ bytes_own by.front (seen_block x by.own) by.rest in
      rw (now, own_number, new, old) refl

  other_shows : (y : Name) → same_name y name ≡ false → (z : Option Name) → name_before name place cut more y ≡ z
      → option_and_then (λ n. shown_bytes_of n q) (option_and_then (number_named p) z) ≡ option_and_then (contents_named p) z
  other_shows y apart None was = refl
  other_shows y apart (Some w) was = go (number_named p w) refl where
    go : (m : Option ℕ) → number_named p w ≡ m → option_and_then (λ n. shown_bytes_of n q) m ≡ option_and_then (λ n. shown_bytes_of n p) m
    go None is = refl
    go (Some n) is = others_show n (not_own p q name (length by.front) place cut more own_number
        (λ a. moved_alike (Fixed a) (Fixed a) (λ c free. fixed_alike (length by.front) place cut more a c))
        (λ m o apart. moved_alike (Inside m o) (Inside m o) (λ c free. other_alike (length by.front) place cut more m o apart c))
        moved_within y w n was apart is)

pub splice_goes_by_names : SpliceGoesByNames
splice_goes_by_names p q x size place cut more name numbered named by free y = elim (cases_Bool (same_name y name)) [
  | inl own ↦ rw own (ap (contents_named q) (name_is y name own) ∙ own_shows p q x size place cut more name numbered named by free)
  | inr apart ↦ rw apart (ap (option_and_then (λ n. shown_bytes_of n q)) (moved_numbers p q x size place cut more name numbered named by free y)
      ∙ other_shows p q x size place cut more name numbered named by free y apart (name_before name place cut more y) refl)
]
