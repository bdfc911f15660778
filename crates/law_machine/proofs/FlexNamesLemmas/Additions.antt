-- A block that comes, by names.
use Rattle.std.proofs.Common.{◌≡◌, ℕ, zero, suc, ◌+◌, ◌<◌, ◌≤◌, true, false, List, [], ◌∷◌, ◌++◌, length, Option, None, Some, replicate, arith, refl, sym, ◌∙◌, ap, inl, inr, subst}
use Rattle.std.specs.Prelude.{if◌then◌else◌}
use Rattle.std.specs.Option.{option_and_then, option_map}
use Rattle.std.proofs.lemmas.Bool.{cases_Bool, false≢true}
use Rattle.law_machine.specs.flex.Numbered.{Anchor, AreNumbered, Fixed, Inside, IsAddedSeen, IsBeforeBlock, SeenBlock}
use Rattle.law_machine.specs.flex_names.Laws.{AllocGoesByNames}
use Rattle.law_machine.specs.flex_names.Names.{At, shown_bytes_of, In, Name, number_from, number_named, place_named, same_name, same_place, shown_named}
use Rattle.law_machine.proofs.FlexNamesLemmas.Before.{deeper}
use Rattle.law_machine.proofs.FlexNamesLemmas.Found.{name_is, name_not, name_self, none_some, place_not, place_self, some_same, then_some}
use Rattle.law_machine.proofs.FlexNamesLemmas.Moving.{bytes_own, named_by_place, seen_block}
use Rattle.law_machine.proofs.FlexNamesLemmas.Reported.{map_some, one_word, shown_at, shown_bytes, shown_none, shown_numbers, shown_past, shown_same}

number_high : (n m : ℕ) (y : Anchor) (bs : List SeenBlock) → number_from n y bs ≡ Some m → m < n + length bs
number_high n m y [] e = absurd (none_some m e)
number_high n m y (b ∷ bs) e = elim (cases_Bool (same_place b.anchor y)) [
  | inl here ↦ let same : n ≡ m = some_same n m (rw here at e) in omega (arith, same)
  | inr other ↦ let high : m < suc n + length bs = number_high (suc n) m y bs (rw other at e) in omega (arith, high)
]

named_high : (p : List SeenBlock) (y : Name) (m : ℕ) → number_named p y ≡ Some m → m < length p
named_high p (At a) m e = let h : m < 0 + length p = number_high 0 m (Fixed a) p e in omega (arith, h)
named_high p (In z o) m e =
    let t = then_some (λ n. number_from 0 (Inside n o) p) (number_named p z) m e in
    let h : m < 0 + length p = number_high 0 m (Inside t.0 o) p t.1.1 in
    omega (arith, h)

-- a word that a name shows lies in one of the blocks, or elsewhere
word_before : (p : List SeenBlock) (y : Name) (x : Anchor) → place_named p y ≡ Some x → IsBeforeBlock (length p) x
word_before p (At a) x e = subst (IsBeforeBlock (length p)) (some_same (Fixed a) x e) tt
word_before p (In z o) x e =
    let t = map_some (λ n. Inside n o) (number_named p z) x e in
    subst (IsBeforeBlock (length p)) t.1.1 (named_high p z t.0 t.1.0)

-- no anchor lies in a block that is not there
none_later : (n m o : ℕ) (bs : List SeenBlock) → AreNumbered n bs → n + length bs ≤ m → number_from n (Inside m o) bs ≡ None
none_later n m o [] numbered past = refl
none_later n m o (b ∷ bs) numbered past =
    rw (place_not b.anchor (Inside m o) (λ same. apart (subst (IsBeforeBlock n) same numbered.0))) (none_later (suc n) m o bs numbered.1.1 (omega (arith, past))) where
      apart : m < n → ⊥
      apart low = omega (arith, past, low)

-- numbers with a block more
added_else : (n : ℕ) (y : Anchor) (b : SeenBlock) (bs : List SeenBlock) → same_place b.anchor y ≡ false → number_from n y (bs ++ b ∷ []) ≡ number_from n y bs
added_else n y b [] apart = rw apart refl
added_else n y b (c ∷ bs) apart = elim (cases_Bool (same_place c.anchor y)) [
  | inl here ↦ rw here refl
  | inr other ↦ rw other (added_else (suc n) y b bs apart)
]

added_own : (n : ℕ) (b : SeenBlock) (bs : List SeenBlock) → number_from n b.anchor bs ≡ None → number_from n b.anchor (bs ++ b ∷ []) ≡ Some (n + length bs)
added_own n b [] none =
    let e : n ≡ n + 0 = omega arith in
    rw (place_self b.anchor) (ap (λ (m : ℕ). let o : Option ℕ = Some m in o) e)
added_own n b (c ∷ bs) none =
    let e : suc n + length bs ≡ n + suc (length bs) = omega arith in
    elim (cases_Bool (same_place c.anchor b.anchor)) [
      | inl here ↦ absurd (none_some n (sym none ∙ rw here refl))
      | inr other ↦ rw other (added_own (suc n) b bs (rw other at none) ∙ ap (λ (m : ℕ). let o : Option ℕ = Some m in o) e)
    ]

added_bytes : (m : ℕ) (bs ys : List SeenBlock) → m < length bs → shown_bytes_of m (bs ++ ys) ≡ shown_bytes_of m bs
added_bytes m [] ys low = absurd (omega (arith, low))
added_bytes zero (b ∷ bs) ys low = refl
added_bytes (suc m) (b ∷ bs) ys low = added_bytes m bs ys (omega (arith, low))

module _ (p q : List SeenBlock) (x : Anchor) (size : ℕ) (name : Name) (numbered : AreNumbered 0 p) (named : place_named p name ≡ Some x)
    (by : IsAddedSeen x size p q) (new : number_named p name ≡ None) where
  reported : (y : Anchor) → number_from 0 y q ≡ number_from 0 y (p ++ seen_block x (replicate size (Some 0)) ∷ [])
  reported y = ap (number_from 0 y) by ∙ shown_numbers None x 0 y p (seen_block x (replicate size (Some 0)) ∷ [])

  -- the place of a word that a name shows
  placed : (y : Name) (w : Anchor) → place_named p y ≡ Some w
      → number_from 0 w q ≡ (if same_name y name then Some (length p) else number_from 0 w p)
  placed y w at = elim (cases_Bool (same_name y name)) [
    | inl own ↦
        let same : x ≡ w = some_same x w (sym named ∙ (ap (place_named p) (sym (name_is y name own)) ∙ at)) in
        let e : 0 + length p ≡ length p = omega arith in
        rw own (ap (λ (z : Anchor). number_from 0 z q) (sym same)
        ∙ (reported x ∙ (added_own 0 (seen_block x (replicate size (Some 0))) p (sym (named_by_place p name x named) ∙ new)
        ∙ ap (λ (m : ℕ). let o : Option ℕ = Some m in o) e)))
    | inr other ↦
        rw other (reported w ∙ added_else 0 w (seen_block x (replicate size (Some 0))) p (place_not x w (λ same.
        false≢true (sym other ∙ again (one_word p y name w at (named ∙ ap (λ (z : Anchor). let o : Option Anchor = Some z in o) same))))))
  ] where
    again : y ≡ name → same_name y name ≡ true
    again e = ap (λ (n : Name). same_name n name) e ∙ name_self name

  in_new : (o : ℕ) → number_from 0 (Inside (length p) o) q ≡ None
  in_new o =
      reported (Inside (length p) o)
      ∙ (added_else 0 (Inside (length p) o) (seen_block x (replicate size (Some 0))) p
      (place_not x (Inside (length p) o) (λ same. itself (subst (IsBeforeBlock (length p)) same (word_before p name x named))))
      ∙ none_later 0 (length p) o p numbered (omega arith)) where
        itself : length p < length p → ⊥
        itself low = omega (arith, low)

  added_names : (y : Name) → number_named q y ≡ (if same_name y name then Some (length p) else number_named p y)
  added_names (At a) = placed (At a) (Fixed a) refl
  added_names (In z o) = ap (option_and_then (λ n. number_from 0 (Inside n o) q)) (added_names z) ∙ step where
    beside : (m : Option ℕ) → number_named p z ≡ m → option_and_then (λ n. number_from 0 (Inside n o) q) m
        ≡ (if same_name (In z o) name then Some (length p) else option_and_then (λ n. number_from 0 (Inside n o) p) m)
    beside None is = rw (name_not (In z o) name (λ same.
        none_some x (sym (ap (option_map (λ n. Inside n o)) is) ∙ (ap (place_named p) same ∙ named)))) refl
    beside (Some m) is = placed (In z o) (Inside m o) (ap (option_map (λ n. Inside n o)) is)

    step : option_and_then (λ n. number_from 0 (Inside n o) q) (if same_name z name then Some (length p) else number_named p z)
        ≡ (if same_name (In z o) name then Some (length p) else number_named p (In z o))
    step = elim (cases_Bool (same_name z name)) [
      | inl own ↦
          let is : z ≡ name = name_is z name own in
          let none : number_named p z ≡ None = ap (number_named p) is ∙ new in
          rw (own, none, name_not (In z o) name (λ same. deeper z (In z o) (omega arith) (is ∙ sym same))) (in_new o)
      | inr other ↦ rw other (beside (number_named p z) refl)
    ]

  bytes : (m : ℕ) → shown_bytes_of m q ≡ shown_at None x m (shown_bytes_of m (p ++ seen_block x (replicate size (Some 0)) ∷ []))
  bytes m = ap (shown_bytes_of m) by ∙ shown_bytes None x m p (seen_block x (replicate size (Some 0)) ∷ []) (word_before p name x named)

  shows : (y : Name) (m : Option ℕ) → number_named p y ≡ m
      → option_and_then (λ n. shown_bytes_of n q) m ≡ shown_named None name y (option_and_then (λ n. shown_bytes_of n p) m)
  shows y None is = sym (shown_none None name y)
  shows y (Some m) is =
      bytes m ∙ (ap (shown_at None x m) (added_bytes m p (seen_block x (replicate size (Some 0)) ∷ []) (named_high p y m is))
      ∙ shown_same p None name y x m (shown_bytes_of m p) named is)

  own_zeros : shown_bytes_of (length p) q ≡ Some (replicate size (Some 0))
  own_zeros =
      bytes (length p)
      ∙ (shown_past None x (length p) (length p) (shown_bytes_of (length p) (p ++ seen_block x (replicate size (Some 0)) ∷ [])) (word_before p name x named) (omega arith)
      ∙ bytes_own p (seen_block x (replicate size (Some 0))) [])

pub alloc_goes_by_names : AllocGoesByNames
alloc_goes_by_names p q x size name numbered named by new y =
    ap (option_and_then (λ n. shown_bytes_of n q)) (added_names p q x size name numbered named by new y) ∙ elim (cases_Bool (same_name y name)) [
      | inl own ↦ rw own (own_zeros p q x size name numbered named by new)
      | inr other ↦ rw other (shows p q x size name numbered named by new y (number_named p y) refl)
    ]
