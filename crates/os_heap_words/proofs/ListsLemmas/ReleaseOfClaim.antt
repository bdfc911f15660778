-- A block that is claimed and given back leaves the list as it was.
use Rattle.std.proofs.Common.{false, [], ◌≡◌, refl, List, ℕ, true, ◌∷◌, ◌==◌, ◌-◌, arith, inl, ◌+◌, ◌≤◌, ◌++◌, ◌∙◌, inr, ap, None, Option, Some, subst, ◌≢◌, option_map}
use Rattle.std.proofs.lemmas.Bool.{cases_Bool, eqb-true, ne_eqb, leb-true, eq-eqb}
use Rattle.std.specs.Prelude.{nat_le}
use Rattle.address_map.specs.Items.{size_of}
use Rattle.address_map.specs.declared.item.Item.{Item}
use Rattle.address_map.specs.declared.item.Item.TheVariants.{Free, Live}
use Rattle.os_heap_words.proofs.ListsLemmas.Reading.{total_facts}
use Rattle.os_heap_words.specs.lists.Heap.{begins_live, AreSpaced, AreTotals}
use Rattle.os_heap_words.specs.lists.Laws.{ClaimIsUndone}
use Rattle.os_heap_words.specs.lists.Lists.{items_after_free, left_free, items_after_release, Claim, claim_behind, first_fit, or_at_base, claim_in_items}

-- an item before a list that begins with a live one, or is all there is, stays apart from it
freed_live : (t : ℕ) (xs : List Item) → begins_live xs ≡ true → items_after_free t xs ≡ Free t ∷ xs
freed_live t [] live = absurd (let e : false ≡ true = live in cc)
freed_live t (Live u ∷ xs) live = refl
freed_live t (Free u ∷ xs) live = absurd (let e : false ≡ true = live in cc)

-- the block at the front of a free item
given_front : (n t : ℕ) (xs : List Item) → n ≤ t → begins_live xs ≡ true → items_after_free n (left_free (t - n) ++ xs) ≡ Free t ∷ xs
given_front n t xs fits live = elim (cases_Bool (t - n == 0)) [
  | inl all ↦
      let e : t - n ≡ 0 = eqb-true (t - n) 0 all in
      let same : n ≡ t = omega arith in
      rw all (freed_live n xs live ∙ ap (λ (k : ℕ). Free k ∷ xs) same)
  | inr some ↦
      let same : n + (t - n) ≡ t = omega arith in
      rw some (ap (λ (k : ℕ). Free k ∷ xs) same)
]

-- a claim made at an offset, and the release there
abbrev IsGivenBack : ℕ → List Item → Option Claim → Type 0
IsGivenBack at xs None = Unit {0}
IsGivenBack at xs (Some c) = items_after_release (at + c.offset + 4) at c.items ≡ Some xs

back_live : (at t : ℕ) (xs : List Item) (c : Option Claim) → 8 ≤ t → IsGivenBack (at + t) xs c → IsGivenBack at (Live t ∷ xs) (claim_behind (Live t) c)
back_live at t xs None size back = tt
back_live at t xs (Some c) size back =
    let other : at + 4 ≢ at + (t + 0 + c.offset) + 4 = λ (e : at + 4 ≡ at + (t + 0 + c.offset) + 4). omega arith in
    let place : at + t + c.offset + 4 ≡ at + (t + 0 + c.offset) + 4 = omega arith in
    let back' : items_after_release (at + (t + 0 + c.offset) + 4) (at + t) c.items ≡ Some xs = subst (λ (b : ℕ). items_after_release b (at + t) c.items ≡ Some xs) place back in
    rw (ne_eqb (at + 4) (at + (t + 0 + c.offset) + 4) other) (ap (option_map (λ ys. Live t ∷ ys)) back')

back_free : (at t : ℕ) (xs : List Item) (c : Option Claim) → begins_live xs ≡ true → IsGivenBack (at + t) xs c → IsGivenBack at (Free t ∷ xs) (claim_behind (Free t) c)
back_free at t xs None live back = tt
back_free at t xs (Some c) live back =
    let place : at + t + c.offset + 4 ≡ at + (t + 0 + c.offset) + 4 = omega arith in
    let back' : items_after_release (at + (t + 0 + c.offset) + 4) (at + t) c.items ≡ Some xs = subst (λ (b : ℕ). items_after_release b (at + t) c.items ≡ Some xs) place back in
    ap (option_map (λ ys. items_after_free t ys)) back' ∙ ap (λ (ys : List Item). Some ys) (freed_live t xs live)

fit_back : (n at : ℕ) (xs : List Item) → AreTotals xs → AreSpaced xs → IsGivenBack at xs (first_fit n xs)
fit_back n at [] totals spaced = tt
fit_back n at (Live t ∷ xs) totals spaced =
    back_live at t xs (first_fit n xs) (total_facts t totals.0).0 (fit_back n (at + t) xs totals.1 spaced)
fit_back n at (Free t ∷ xs) totals spaced = elim (cases_Bool (nat_le n t)) [
  | inl fits ↦
      let here : at + 4 ≡ at + 0 + 4 = omega arith in
      rw (fits, eq-eqb (at + 4) (at + 0 + 4) here) (ap (λ (ys : List Item). Some ys) (given_front n t xs (leb-true n t fits) spaced.0))
  | inr less ↦ rw less (back_free at t xs (first_fit n xs) spaced.0 (fit_back n (at + t) xs totals.1 spaced.1))
]

-- the block at the base is dropped again
base_back : (n at : ℕ) (xs : List Item) → AreTotals xs → AreSpaced xs → items_after_release (at + size_of xs + 4) at (xs ++ Live n ∷ []) ≡ Some xs
base_back n at [] totals spaced =
    let here : at + 4 ≡ at + 0 + 4 = omega arith in
    rw (eq-eqb (at + 4) (at + 0 + 4) here) refl
base_back n at (Live t ∷ xs) totals spaced =
    let size = (total_facts t totals.0).0 in
    let other : at + 4 ≢ at + (t + size_of xs) + 4 = λ (e : at + 4 ≡ at + (t + size_of xs) + 4). omega arith in
    let place : at + t + size_of xs + 4 ≡ at + (t + size_of xs) + 4 = omega arith in
    let rest : items_after_release (at + (t + size_of xs) + 4) (at + t) (xs ++ Live n ∷ []) ≡ Some xs =
    subst (λ (b : ℕ). items_after_release b (at + t) (xs ++ Live n ∷ []) ≡ Some xs) place (base_back n (at + t) xs totals.1 spaced) in
    rw (ne_eqb (at + 4) (at + (t + size_of xs) + 4) other) (ap (option_map (λ ys. Live t ∷ ys)) rest)
base_back n at (Free t ∷ xs) totals spaced =
    let place : at + t + size_of xs + 4 ≡ at + (t + size_of xs) + 4 = omega arith in
    let rest : items_after_release (at + (t + size_of xs) + 4) (at + t) (xs ++ Live n ∷ []) ≡ Some xs =
    subst (λ (b : ℕ). items_after_release b (at + t) (xs ++ Live n ∷ []) ≡ Some xs) place (base_back n (at + t) xs totals.1 spaced.1) in
    ap (option_map (λ ys. items_after_free t ys)) rest ∙ ap (λ (ys : List Item). Some ys) (freed_live t xs spaced.0)

or_base_back : (n room at : ℕ) (xs : List Item) (c : Option Claim) → AreTotals xs → AreSpaced xs → IsGivenBack at xs c → IsGivenBack at xs (or_at_base n room xs c)
or_base_back n room at xs (Some c) totals spaced back = back
or_base_back n room at xs None totals spaced back = elim (cases_Bool (nat_le (size_of xs + n) room)) [
  | inl fits ↦ rw fits (base_back n at xs totals spaced)
  | inr full ↦ rw full tt
]

pub gives_back : ClaimIsUndone
unfolding claim_in_items
gives_back n room at xs c totals spaced made =
    let back : IsGivenBack at xs (claim_in_items n room xs) = or_base_back n room at xs (first_fit n xs) totals spaced (fit_back n at xs totals spaced) in
    let at_claim : IsGivenBack at xs (Some c) = subst (IsGivenBack at xs) made back in
    at_claim
