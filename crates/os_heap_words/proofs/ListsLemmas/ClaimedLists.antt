-- What a claim makes of a list: its lengths, how many bytes it has, and a block that was none
-- before.
use Rattle.std.proofs.Common.{◌-◌, ◌≡◌, ◌≢◌, ◌+◌, ◌≤◌, ◌<◌, ◌==◌, ◌++◌, ◌∙◌, List, ℕ, [], ◌∷◌, Option, Some, None, nat_le, is_some, true, false, refl, sym, ap, subst, inl, inr, arith}
use Rattle.std.proofs.lemmas.Bool.{cases_Bool, eqb-true, eqb-false, leb-true, false_from_ne_true}
use Rattle.address_map.specs.Items.{is_total, size_of}
use Rattle.address_map.specs.declared.item.Item.{Item}
use Rattle.address_map.specs.declared.item.Item.TheVariants.{Live, Free}
use Rattle.os_heap_words.proofs.ListsLemmas.LinkWalk.{live_next, live_low}
use Rattle.os_heap_words.proofs.ListsLemmas.LiveBlocks.{LiveBytes, law_live_bytes}
use Rattle.os_heap_words.proofs.ListsLemmas.Reading.{total_facts}
use Rattle.os_heap_words.proofs.ListsLemmas.Spelling.{size_of-append, total_of-numbers, totals-join}
use Rattle.os_heap_words.specs.lists.Heap.{AreTotals}
use Rattle.os_heap_words.specs.lists.Lists.{live_total, Claim, claim_behind, left_free, first_fit, or_at_base, claim_in_items}

-- The list after a claim has the lengths of items.
abbrev pub HasTotals : Option Claim → Type 0
HasTotals None = Unit {0}
HasTotals (Some c) = AreTotals c.items

left_totals : (n t : ℕ) (xs : List Item) → is_total n ≡ true → is_total t ≡ true → n ≤ t → AreTotals xs → AreTotals (left_free (t - n) ++ xs)
left_totals n t xs less total fits totals = elim (cases_Bool (t - n == 0)) [
  | inl none ↦ rw none totals
  | inr some ↦
      let rest : t - n ≡ 0 → ⊥ = eqb-false (t - n) 0 some in
      let own = total_facts n less in
      let all = total_facts t total in
      let left : is_total (t - n) ≡ true = total_of-numbers (t - n) (omega (arith, own.1, all.1, rest)) (omega (arith, own.1, all.1)) in
      rw some (left, totals)
]

behind_totals_live : (t : ℕ) (o : Option Claim) → is_total t ≡ true → HasTotals o → HasTotals (claim_behind (Live t) o)
behind_totals_live t None total has = tt
behind_totals_live t (Some c) total has = (total, has)

behind_totals_free : (t : ℕ) (o : Option Claim) → is_total t ≡ true → HasTotals o → HasTotals (claim_behind (Free t) o)
behind_totals_free t None total has = tt
behind_totals_free t (Some c) total has = (total, has)

fit_totals : (n : ℕ) (xs : List Item) → is_total n ≡ true → AreTotals xs → HasTotals (first_fit n xs)
fit_totals n [] total totals = tt
fit_totals n (Live t ∷ xs) total totals = behind_totals_live t (first_fit n xs) totals.0 (fit_totals n xs total totals.1)
fit_totals n (Free t ∷ xs) total totals = elim (cases_Bool (nat_le n t)) [
  | inl fits ↦ rw fits (total, left_totals n t xs total totals.0 (leb-true n t fits) totals.1)
  | inr short ↦ rw short (behind_totals_free t (first_fit n xs) totals.0 (fit_totals n xs total totals.1))
]

base_totals : (n room : ℕ) (xs : List Item) (o : Option Claim) → is_total n ≡ true → AreTotals xs → HasTotals o → HasTotals (or_at_base n room xs o)
base_totals n room xs (Some c) total totals has = has
base_totals n room xs None total totals has = elim (cases_Bool (nat_le (size_of xs + n) room)) [
  | inl fits ↦ rw fits (totals-join xs (Live n ∷ []) totals (total, tt))
  | inr short ↦ rw short tt
]

pub claim_totals : (n room : ℕ) (xs : List Item) → is_total n ≡ true → AreTotals xs → HasTotals (claim_in_items n room xs)
unfolding claim_in_items
claim_totals n room xs total totals = base_totals n room xs (first_fit n xs) total totals (fit_totals n xs total totals)

-- The block that a claim makes was none before.
abbrev pub IsUnheld : ℕ → List Item → Option Claim → Type 0
IsUnheld at xs None = Unit {0}
IsUnheld at xs (Some c) = is_some (live_total (at + c.offset + 4) at xs) ≡ false

past_unheld : (block at : ℕ) (xs : List Item) → block < at + 4 → is_some (live_total block at xs) ≡ false
past_unheld block at xs low = false_from_ne_true _ (λ live. let far : at + 4 ≤ block = live_low block at xs live in omega (arith, far, low))

unheld_live : (at t : ℕ) (xs : List Item) (o : Option Claim) → 8 ≤ t → IsUnheld (at + t) xs o → IsUnheld at (Live t ∷ xs) (claim_behind (Live t) o)
unheld_live at t xs None size un = tt
unheld_live at t xs (Some c) size un =
    let e : at + (t + 0 + c.offset) + 4 ≡ at + t + c.offset + 4 = omega arith in
    let other : at + 4 ≢ at + t + c.offset + 4 = λ (same : at + 4 ≡ at + t + c.offset + 4). omega arith in
    subst (λ (b : ℕ). is_some (live_total b at (Live t ∷ xs)) ≡ false) (sym e) (ap is_some (live_next (at + t + c.offset + 4) at t xs other) ∙ un)

unheld_free : (at t : ℕ) (xs : List Item) (o : Option Claim) → IsUnheld (at + t) xs o → IsUnheld at (Free t ∷ xs) (claim_behind (Free t) o)
unheld_free at t xs None un = tt
unheld_free at t xs (Some c) un =
    let e : at + (t + 0 + c.offset) + 4 ≡ at + t + c.offset + 4 = omega arith in
    subst (λ (b : ℕ). is_some (live_total b at (Free t ∷ xs)) ≡ false) (sym e) un

fit_unheld : (n at : ℕ) (xs : List Item) → AreTotals xs → IsUnheld at xs (first_fit n xs)
fit_unheld n at [] totals = tt
fit_unheld n at (Live t ∷ xs) totals = unheld_live at t xs (first_fit n xs) (total_facts t totals.0).0 (fit_unheld n (at + t) xs totals.1)
fit_unheld n at (Free t ∷ xs) totals = elim (cases_Bool (nat_le n t)) [
  | inl fits ↦ rw fits (past_unheld (at + 0 + 4) (at + t) xs (omega (arith, total_facts t totals.0)))
  | inr short ↦ rw short (unheld_free at t xs (first_fit n xs) (fit_unheld n (at + t) xs totals.1))
]

end_unheld : (at : ℕ) (xs : List Item) (o : Option ℕ) → AreTotals xs → live_total (at + size_of xs + 4) at xs ≡ o → is_some o ≡ false
end_unheld at xs None totals e = refl
end_unheld at xs (Some t) totals e =
    let place : LiveBytes (at + size_of xs + 4) t at (at + size_of xs) = law_live_bytes (at + size_of xs + 4) t at xs totals e in
    absurd (omega (arith, place.high, place.size))

base_unheld : (n room at : ℕ) (xs : List Item) (o : Option Claim) → AreTotals xs → IsUnheld at xs o → IsUnheld at xs (or_at_base n room xs o)
base_unheld n room at xs (Some c) totals un = un
base_unheld n room at xs None totals un = elim (cases_Bool (nat_le (size_of xs + n) room)) [
  | inl fits ↦ rw fits (end_unheld at xs (live_total (at + size_of xs + 4) at xs) totals refl)
  | inr short ↦ rw short tt
]

pub claim_unheld : (n room at : ℕ) (xs : List Item) → AreTotals xs → IsUnheld at xs (claim_in_items n room xs)
unfolding claim_in_items
claim_unheld n room at xs totals = base_unheld n room at xs (first_fit n xs) totals (fit_unheld n at xs totals)

-- The list after a claim has no more bytes than there is room.
abbrev pub HasSize : ℕ → Option Claim → Type 0
HasSize size None = Unit {0}
HasSize size (Some c) = size_of c.items ≡ size

left_size : (n t : ℕ) (xs : List Item) → n ≤ t → n + size_of (left_free (t - n) ++ xs) ≡ t + size_of xs
left_size n t xs fits = elim (cases_Bool (t - n == 0)) [
  | inl none ↦ let e : t - n ≡ 0 = eqb-true (t - n) 0 none in rw none (omega (arith, fits, e))
  | inr some ↦ rw some (omega (arith, fits))
]

behind_size_live : (t size : ℕ) (o : Option Claim) → HasSize size o → HasSize (t + size) (claim_behind (Live t) o)
behind_size_live t size None has = tt
behind_size_live t size (Some c) has = ap (λ (n : ℕ). t + n) has

behind_size_free : (t size : ℕ) (o : Option Claim) → HasSize size o → HasSize (t + size) (claim_behind (Free t) o)
behind_size_free t size None has = tt
behind_size_free t size (Some c) has = ap (λ (n : ℕ). t + n) has

fit_size : (n : ℕ) (xs : List Item) → HasSize (size_of xs) (first_fit n xs)
fit_size n [] = tt
fit_size n (Live t ∷ xs) = behind_size_live t (size_of xs) (first_fit n xs) (fit_size n xs)
fit_size n (Free t ∷ xs) = elim (cases_Bool (nat_le n t)) [
  | inl fits ↦ rw fits (left_size n t xs (leb-true n t fits))
  | inr short ↦ rw short (behind_size_free t (size_of xs) (first_fit n xs) (fit_size n xs))
]

abbrev pub IsWithin : ℕ → Option Claim → Type 0
IsWithin room None = Unit {0}
IsWithin room (Some c) = size_of c.items ≤ room

base_within : (n room : ℕ) (xs : List Item) (o : Option Claim) → size_of xs ≤ room → HasSize (size_of xs) o → IsWithin room (or_at_base n room xs o)
base_within n room xs (Some c) fits has = omega (arith, has, fits)
base_within n room xs None fits has = elim (cases_Bool (nat_le (size_of xs + n) room)) [
  | inl enough ↦ rw enough (omega (arith, size_of-append xs (Live n ∷ []), leb-true (size_of xs + n) room enough))
  | inr short ↦ rw short tt
]

pub claim_within : (n room : ℕ) (xs : List Item) → size_of xs ≤ room → IsWithin room (claim_in_items n room xs)
unfolding claim_in_items
claim_within n room xs fits = base_within n room xs (first_fit n xs) fits (fit_size n xs)
