-- A new size of a block, by names.
use Rattle.std.proofs.Common.{◌≡◌, ℕ, Bool, ◌+◌, ◌-◌, ◌≤◌, true, false, List, length, Option, None, Some, arith, refl, sym, ◌∙◌, ap, inl, inr, ◌⊎◌}
use Rattle.std.specs.Prelude.{if◌then◌else◌}
use Rattle.std.specs.Option.{option_and_then, option_map}
use Rattle.std.proofs.lemmas.Bool.{cases_Bool, cases_lt, le-ltb, lt-ltb}
use Rattle.law_machine.specs.flex.Numbered.{Anchor, AreNumbered, Inside, IsSplicedSeen, SeenBlock}
use Rattle.law_machine.specs.flex.Seen.{seen_spliced}
use Rattle.law_machine.specs.flex_names.Laws.{IsResizedNamed, seen_resized}
use Rattle.law_machine.specs.flex_names.Names.{At, shown_bytes_of, contents_named, In, Name, name_before, number_from, number_named, offset_before, place_named, same_name}
use Rattle.law_machine.proofs.FlexNamesLemmas.Found.{name_is}
use Rattle.law_machine.proofs.FlexNamesLemmas.Moving.{bytes_own, seen_block}
use Rattle.law_machine.proofs.FlexNamesLemmas.Splices.{splice_goes_by_names, spliced_number}

-- a splice after all anchors of a block leaves each name what it has
module _ (p : List SeenBlock) (x : Name) (place cut more : ℕ) (free : (o : ℕ) → place - cut ≤ o → number_named p (In x o) ≡ None) where
  inner_number : (o : ℕ) → option_and_then (number_named p) (option_map (In x) (offset_before place cut more o)) ≡ number_named p (In x o)
  inner_number o = elim (cases_lt o (place - cut)) [
    | inl low ↦ rw (lt-ltb o (place - cut) low) refl
    | inr from ↦ elim (cases_lt o (place - cut + more)) [
      | inl zeros ↦ rw (le-ltb o (place - cut) from, lt-ltb o (place - cut + more) zeros) (sym (free o from))
      | inr high ↦ rw (le-ltb o (place - cut) from, le-ltb o (place - cut + more) high)
          (free (place + (o - (place - cut + more))) (omega arith) ∙ sym (free o from))
    ]
  ]

  through : (o : ℕ) (before : Option Name) (n : Option ℕ) → option_and_then (number_named p) before ≡ n
      → option_and_then (number_named p) (option_map (λ w. In w o) before) ≡ option_and_then (λ m. number_from 0 (Inside m o) p) n
  through o None n is = ap (option_and_then (λ m. number_from 0 (Inside m o) p)) is
  through o (Some w) n is = ap (option_and_then (λ m. number_from 0 (Inside m o) p)) is

  same_numbers : (y : Name) → option_and_then (number_named p) (name_before x place cut more y) ≡ number_named p y
  same_numbers (At a) = refl
  same_numbers (In z o) = elim (cases_Bool (same_name z x)) [
    | inl here ↦ rw here (inner_number o ∙ ap (λ (w : Name). number_named p (In w o)) (sym (name_is z x here)))
    | inr other ↦ rw other (through o (name_before x place cut more z) (number_named p z) (same_numbers z))
  ]

  contents_by : (before : Option Name) → option_and_then (contents_named p) before ≡ option_and_then (λ n. shown_bytes_of n p) (option_and_then (number_named p) before)
  contents_by None = refl
  contents_by (Some w) = refl

  shows_same : (y : Name) → option_and_then (contents_named p) (name_before x place cut more y) ≡ contents_named p y
  shows_same y = contents_by (name_before x place cut more y) ∙ ap (option_and_then (λ n. shown_bytes_of n p)) (same_numbers y)

pub resize_goes_by_names : (p q : List SeenBlock) (x : Anchor) (size old : ℕ) (name : Name) → AreNumbered 0 p → place_named p name ≡ Some x
    → IsSplicedSeen x old old (old - size) (size - old) p q
    → ((l : List (Option ℕ)) → contents_named p name ≡ Some l → (o : ℕ) → (size ≤ o) ⊎ (length l ≤ o) → number_named p (In name o) ≡ None)
    → IsResizedNamed name size p q
resize_goes_by_names p q x size old name numbered named by free y =
    splice_goes_by_names p q x old old (old - size) (size - old) name numbered named by (λ o low high. behind o low) y ∙ each (same_name y name) where
      shown : contents_named p name ≡ Some by.own
      shown =
          ap (option_and_then (λ n. shown_bytes_of n p)) (spliced_number p q x old old (old - size) (size - old) name numbered named by)
          ∙ (ap (shown_bytes_of (length by.front)) by.was ∙ bytes_own by.front (seen_block x by.own) by.rest)

      behind : (o : ℕ) → old - (old - size) ≤ o → number_named p (In name o) ≡ None
      behind o low = elim (cases_lt o size) [
        | inl within ↦ free by.own shown o (inr (omega (arith, by.own_size, low, within)))
        | inr past ↦ free by.own shown o (inl past)
      ]

      each : (here : Bool)
          → (if here then option_map (λ l. seen_spliced l old (old - size) (size - old)) (contents_named p name)
          else option_and_then (contents_named p) (name_before name old (old - size) (size - old) y))
          ≡ (if here then option_map (λ l. seen_resized l size) (contents_named p name) else contents_named p y)
      each true =
          ap (option_map (λ l. seen_spliced l old (old - size) (size - old))) shown
          ∙ (ap (λ (n : ℕ). let o : Option (List (Option ℕ)) = Some (seen_spliced by.own n (n - size) (size - n)) in o) (sym by.own_size)
          ∙ ap (option_map (λ l. seen_resized l size)) (sym shown))
      each false = shows_same p name old (old - size) (size - old) behind y
