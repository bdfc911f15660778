-- The blocks of a list: a claim leaves each that was there and makes one more; and where their
-- bytes lie.
use Rattle.std.proofs.Common.{◌⊎◌, option_map, add_assoc, ◌-◌, ◌≡◌, ◌+◌, refl, List, ℕ, Some, ◌∷◌, None, Option, arith, ◌≤◌, subst, ◌≢◌, ◌∙◌, sym, inl, [], ◌++◌, nat_le, inr, ◌==◌, true, false, ap, is_some, ◌%◌, ◌<◌}
use Rattle.std.proofs.lemmas.Bool.{leb-false, eq-eqb, cases_Bool, eqb-true, leb-true, false_from_ne_true, ne_eqb, or_from}
use Rattle.address_map.specs.Items.{size_of, is_head}
use Rattle.address_map.specs.declared.item.Item.{Item}
use Rattle.address_map.specs.declared.item.Item.TheVariants.{Live, Free}
use Rattle.os_heap_words.proofs.ListsLemmas.HeadWords.{head_inside}
use Rattle.os_heap_words.proofs.ListsLemmas.LinkWalk.{live_next, live_low}
use Rattle.os_heap_words.proofs.ListsLemmas.Reading.{total_facts}
use Rattle.os_heap_words.specs.lists.Heap.{AreTotals}
use Rattle.os_heap_words.specs.lists.Lists.{live_total, Claim, claim_behind, left_free, first_fit, or_at_base, claim_in_items, items_after_free, items_with_gap, items_after_release, items_after_growth, items_after_refit, resized_in_place}

live_here : (block at t : ℕ) (xs : List Item) → at + 4 ≡ block → live_total block at (Live t ∷ xs) ≡ Some t
live_here block at t xs here = rw (eq-eqb (at + 4) block here) refl

-- the new block is live
abbrev pub IsFresh : ℕ → ℕ → Option Claim → Type 0
IsFresh n at None = Unit {0}
IsFresh n at (Some c) = live_total (at + c.offset + 4) at c.items ≡ Some n

fresh_behind_live : (n at t : ℕ) (o : Option Claim) → 8 ≤ t → IsFresh n (at + t) o → IsFresh n at (claim_behind (Live t) o)
fresh_behind_live n at t None size fresh = tt
fresh_behind_live n at t (Some c) size fresh =
    let e : at + (t + 0 + c.offset) + 4 ≡ at + t + c.offset + 4 = omega arith in
    let other : at + 4 ≢ at + t + c.offset + 4 = λ (same : at + 4 ≡ at + t + c.offset + 4). omega arith in
    subst (λ (b : ℕ). live_total b at (Live t ∷ c.items) ≡ Some n) (sym e) (live_next (at + t + c.offset + 4) at t c.items other ∙ fresh)

fresh_behind_free : (n at t : ℕ) (o : Option Claim) → IsFresh n (at + t) o → IsFresh n at (claim_behind (Free t) o)
fresh_behind_free n at t None fresh = tt
fresh_behind_free n at t (Some c) fresh =
    let e : at + (t + 0 + c.offset) + 4 ≡ at + t + c.offset + 4 = omega arith in
    subst (λ (b : ℕ). live_total b at (Free t ∷ c.items) ≡ Some n) (sym e) fresh

fit_fresh : (n at : ℕ) (xs : List Item) → AreTotals xs → IsFresh n at (first_fit n xs)
fit_fresh n at [] totals = tt
fit_fresh n at (Live t ∷ xs) totals = fresh_behind_live n at t (first_fit n xs) (total_facts t totals.0).0 (fit_fresh n (at + t) xs totals.1)
fit_fresh n at (Free t ∷ xs) totals = elim (cases_Bool (nat_le n t)) [
  | inl fits ↦ rw fits (live_here (at + 0 + 4) at n (left_free (t - n) ++ xs) (omega arith))
  | inr short ↦ rw short (fresh_behind_free n at t (first_fit n xs) (fit_fresh n (at + t) xs totals.1))
]

end_live : (n at : ℕ) (xs : List Item) → AreTotals xs → live_total (at + size_of xs + 4) at (xs ++ Live n ∷ []) ≡ Some n
end_live n at [] totals = live_here (at + 0 + 4) at n [] (omega arith)
end_live n at (Live t ∷ xs) totals =
    let least = total_facts t totals.0 in
    let e : at + (t + size_of xs) + 4 ≡ at + t + size_of xs + 4 = omega arith in
    let other : at + 4 ≢ at + t + size_of xs + 4 = λ (same : at + 4 ≡ at + t + size_of xs + 4). omega arith in
    subst (λ (b : ℕ). live_total b at (Live t ∷ (xs ++ Live n ∷ [])) ≡ Some n) (sym e)
    (live_next (at + t + size_of xs + 4) at t (xs ++ Live n ∷ []) other ∙ end_live n (at + t) xs totals.1)
end_live n at (Free t ∷ xs) totals =
    let e : at + (t + size_of xs) + 4 ≡ at + t + size_of xs + 4 = omega arith in
    subst (λ (b : ℕ). live_total b at (Free t ∷ (xs ++ Live n ∷ [])) ≡ Some n) (sym e) (end_live n (at + t) xs totals.1)

base_fresh : (n room at : ℕ) (xs : List Item) (o : Option Claim) → AreTotals xs → IsFresh n at o → IsFresh n at (or_at_base n room xs o)
base_fresh n room at xs (Some c) totals fresh = fresh
base_fresh n room at xs None totals fresh = elim (cases_Bool (nat_le (size_of xs + n) room)) [
  | inl fits ↦ rw fits (end_live n at xs totals)
  | inr short ↦ rw short tt
]

pub claim_fresh : (n room at : ℕ) (xs : List Item) → AreTotals xs → IsFresh n at (claim_in_items n room xs)
unfolding claim_in_items
claim_fresh n room at xs totals = base_fresh n room at xs (first_fit n xs) totals (fit_fresh n at xs totals)

-- a block that was live is live
abbrev pub IsStill : ℕ → ℕ → ℕ → Option Claim → Type 0
IsStill block total at None = Unit {0}
IsStill block total at (Some c) = live_total block at c.items ≡ Some total

still_here : (block total at t : ℕ) (o : Option Claim) → (at + 4 == block) ≡ true → Some t ≡ Some total → IsStill block total at (claim_behind (Live t) o)
still_here block total at t None here same = tt
still_here block total at t (Some c) here same = rw here same

still_behind_live : (block total at t : ℕ) (o : Option Claim) → (at + 4 == block) ≡ false → IsStill block total (at + t) o
    → IsStill block total at (claim_behind (Live t) o)
still_behind_live block total at t None other still = tt
still_behind_live block total at t (Some c) other still = rw other still

still_behind_free : (block total at t : ℕ) (o : Option Claim) → IsStill block total (at + t) o → IsStill block total at (claim_behind (Free t) o)
still_behind_free block total at t None still = tt
still_behind_free block total at t (Some c) still = still

-- the front of a free item taken
still_left : (block total at left : ℕ) (xs : List Item) → live_total block (at + left) xs ≡ Some total
    → live_total block at (left_free left ++ xs) ≡ Some total
still_left block total at left xs live = elim (cases_Bool (left == 0)) [
  | inl none ↦
      let e : at + left ≡ at = omega (arith, eqb-true left 0 none) in
      rw none (subst (λ (p : ℕ). live_total block p xs ≡ Some total) e live)
  | inr some ↦ rw some live
]

still_split : (block total at n t : ℕ) (xs : List Item) → n ≤ t → 8 ≤ t → live_total block (at + t) xs ≡ Some total
    → live_total block at (Live n ∷ (left_free (t - n) ++ xs)) ≡ Some total
still_split block total at n t xs fits size live =
    let low : at + t + 4 ≤ block = live_low block (at + t) xs (ap is_some live) in
    let other : at + 4 ≢ block = λ (e : at + 4 ≡ block). omega arith in
    let e : at + t ≡ at + n + (t - n) = omega arith in
    live_next block at n (left_free (t - n) ++ xs) other
    ∙ still_left block total (at + n) (t - n) xs (subst (λ (p : ℕ). live_total block p xs ≡ Some total) e live)

fit_still : (n block total at : ℕ) (xs : List Item) → live_total block at xs ≡ Some total → AreTotals xs → IsStill block total at (first_fit n xs)
fit_still n block total at [] live totals = tt
fit_still n block total at (Live t ∷ xs) live totals = elim (cases_Bool (at + 4 == block)) [
  | inl here ↦ still_here block total at t (first_fit n xs) here (rw here at live)
  | inr other ↦ still_behind_live block total at t (first_fit n xs) other (fit_still n block total (at + t) xs (rw other at live) totals.1)
]
fit_still n block total at (Free t ∷ xs) live totals = elim (cases_Bool (nat_le n t)) [
  | inl fits ↦ rw fits (still_split block total at n t xs (leb-true n t fits) (total_facts t totals.0).0 live)
  | inr short ↦ rw short (still_behind_free block total at t (first_fit n xs) (fit_still n block total (at + t) xs live totals.1))
]

live_append : (block total at : ℕ) (xs ys : List Item) → live_total block at xs ≡ Some total → live_total block at (xs ++ ys) ≡ Some total
live_append block total at [] ys live = absurd (let none : None ≡ Some total = live in cc)
live_append block total at (Live t ∷ xs) ys live = elim (cases_Bool (at + 4 == block)) [
  | inl here ↦ let e = rw here at live in rw here e
  | inr other ↦ rw other (live_append block total (at + t) xs ys (rw other at live))
]
live_append block total at (Free t ∷ xs) ys live = live_append block total (at + t) xs ys live

base_still : (n room block total at : ℕ) (xs : List Item) (o : Option Claim) → live_total block at xs ≡ Some total → IsStill block total at o
    → IsStill block total at (or_at_base n room xs o)
base_still n room block total at xs (Some c) live still = still
base_still n room block total at xs None live still = elim (cases_Bool (nat_le (size_of xs + n) room)) [
  | inl fits ↦ rw fits (live_append block total at xs (Live n ∷ []) live)
  | inr short ↦ rw short tt
]

pub claim_still : (n room block total at : ℕ) (xs : List Item) → live_total block at xs ≡ Some total → AreTotals xs → IsStill block total at (claim_in_items n room xs)
unfolding claim_in_items
claim_still n room block total at xs live totals = base_still n room block total at xs (first_fit n xs) live (fit_still n block total at xs live totals)

-- The same of a release of another block, and of a change of its total.
abbrev pub IsStillIn : ℕ → ℕ → ℕ → Option (List Item) → Type 0
IsStillIn block total at None = Unit {0}
IsStillIn block total at (Some xs) = live_total block at xs ≡ Some total

freed_still : (block total at t : ℕ) (xs : List Item) → live_total block (at + t) xs ≡ Some total → live_total block at (items_after_free t xs) ≡ Some total
freed_still block total at t [] live = absurd (let none : None ≡ Some total = live in cc)
freed_still block total at t (Live u ∷ xs) live = live
freed_still block total at t (Free u ∷ xs) live = subst (λ (p : ℕ). live_total block p xs ≡ Some total) (add_assoc at t u) live

glued_still : (block total at t : ℕ) (xs : List Item) → live_total block (at + t) xs ≡ Some total → live_total block at (items_with_gap t xs) ≡ Some total
glued_still block total at t xs live = elim (cases_Bool (t == 0)) [
  | inl none ↦
      let e : at + t ≡ at = omega (arith, eqb-true t 0 none) in
      rw none (subst (λ (p : ℕ). live_total block p xs ≡ Some total) e live)
  | inr some ↦ rw some (freed_still block total at t xs live)
]

live_still : (block total at t : ℕ) (o : Option (List Item)) → (at + 4 == block) ≡ false → IsStillIn block total (at + t) o
    → IsStillIn block total at (option_map (λ ys. Live t ∷ ys) o)
live_still block total at t None other still = tt
live_still block total at t (Some ys) other still = rw other still

found_still : (block total at t : ℕ) (o : Option (List Item)) → (at + 4 == block) ≡ true → Some t ≡ Some total
    → IsStillIn block total at (option_map (λ ys. Live t ∷ ys) o)
found_still block total at t None here same = tt
found_still block total at t (Some ys) here same = rw here same

join_still : (block total at t : ℕ) (o : Option (List Item)) → IsStillIn block total (at + t) o → IsStillIn block total at (option_map (λ ys. items_after_free t ys) o)
join_still block total at t None still = tt
join_still block total at t (Some ys) still = freed_still block total at t ys still

pass_still : (block total at t : ℕ) (o : Option (List Item)) → IsStillIn block total (at + t) o → IsStillIn block total at (option_map (λ ys. Free t ∷ ys) o)
pass_still block total at t None still = tt
pass_still block total at t (Some ys) still = still

not_both : (at b c : ℕ) → b ≢ c → at + 4 ≡ c → (at + 4 == b) ≡ false
not_both at b c other here = ne_eqb (at + 4) b (λ (e : at + 4 ≡ b). other (sym e ∙ here))

pub release_still : (other block total at : ℕ) (xs : List Item) → other ≢ block → live_total other at xs ≡ Some total
    → IsStillIn other total at (items_after_release block at xs)
release_still other block total at [] apart live = tt
release_still other block total at (Live t ∷ xs) apart live = elim (cases_Bool (at + 4 == block)) [
  | inl here ↦
      let past : (at + 4 == other) ≡ false = not_both at other block apart (eqb-true (at + 4) block here) in
      rw here (freed_still other total at t xs (rw past at live))
  | inr away ↦ rw away (elim (cases_Bool (at + 4 == other)) [
    | inl found ↦ found_still other total at t (items_after_release block (at + t) xs) found (rw found at live)
    | inr past ↦ live_still other total at t (items_after_release block (at + t) xs) past (release_still other block total (at + t) xs apart (rw past at live))
  ])
]
release_still other block total at (Free t ∷ xs) apart live =
    join_still other total at t (items_after_release block (at + t) xs) (release_still other block total (at + t) xs apart live)

grown_still : (other total at room new t : ℕ) (xs : List Item) → (at + 4 == other) ≡ false → t ≤ new → live_total other (at + t) xs ≡ Some total
    → IsStillIn other total at (items_after_growth room new t xs)
grown_still other total at room new t [] past more live = absurd (let none : None ≡ Some total = live in cc)
grown_still other total at room new t (Live u ∷ xs) past more live = tt
grown_still other total at room new t (Free u ∷ xs) past more live = elim (cases_Bool (nat_le new (t + u))) [
  | inl fits ↦
      let e : at + t + u ≡ at + new + (t + u - new) = omega (arith, leb-true new (t + u) fits) in
      let left : live_total other (at + new) (left_free (t + u - new) ++ xs) ≡ Some total =
      still_left other total (at + new) (t + u - new) xs (subst (λ (p : ℕ). live_total other p xs ≡ Some total) e live) in
      rw (fits, past) left
  | inr short ↦ rw short tt
]

refitted_still : (other total at room new t : ℕ) (xs : List Item) → (at + 4 == other) ≡ false → live_total other (at + t) xs ≡ Some total
    → IsStillIn other total at (items_after_refit room new t xs)
refitted_still other total at room new t xs past live = elim (cases_Bool (nat_le new t)) [
  | inl fits ↦
      let e : at + t ≡ at + new + (t - new) = omega (arith, leb-true new t fits) in
      let cut : live_total other (at + new) (items_with_gap (t - new) xs) ≡ Some total =
      glued_still other total (at + new) (t - new) xs (subst (λ (p : ℕ). live_total other p xs ≡ Some total) e live) in
      rw (fits, past) cut
  | inr more ↦ rw more (grown_still other total at room new t xs past (omega (arith, leb-false new t more)) live)
]

pub refit_still : (other block total end new at : ℕ) (xs : List Item) → other ≢ block → live_total other at xs ≡ Some total
    → IsStillIn other total at (resized_in_place block end new at xs)
refit_still other block total end new at [] apart live = tt
refit_still other block total end new at (Live t ∷ xs) apart live = elim (cases_Bool (at + 4 == block)) [
  | inl here ↦
      let past : (at + 4 == other) ≡ false = not_both at other block apart (eqb-true (at + 4) block here) in
      rw here (refitted_still other total at (end - at) new t xs past (rw past at live))
  | inr away ↦ rw away (elim (cases_Bool (at + 4 == other)) [
    | inl found ↦ found_still other total at t (resized_in_place block end new (at + t) xs) found (rw found at live)
    | inr past ↦
        live_still other total at t (resized_in_place block end new (at + t) xs) past (refit_still other block total end new (at + t) xs apart (rw past at live))
  ])
]
refit_still other block total end new at (Free t ∷ xs) apart live =
    pass_still other total at t (resized_in_place block end new (at + t) xs) (refit_still other block total end new (at + t) xs apart live)

-- the block itself has its new total then
grown_own : (block at room new t : ℕ) (xs : List Item) → (at + 4 == block) ≡ true → IsStillIn block new at (items_after_growth room new t xs)
grown_own block at room new t [] here = elim (cases_Bool (nat_le new room)) [
  | inl fits ↦ rw (fits, here) refl
  | inr short ↦ rw short tt
]
grown_own block at room new t (Live u ∷ xs) here = tt
grown_own block at room new t (Free u ∷ xs) here = elim (cases_Bool (nat_le new (t + u))) [
  | inl fits ↦ rw (fits, here) refl
  | inr short ↦ rw short tt
]

refitted_own : (block at room new t : ℕ) (xs : List Item) → (at + 4 == block) ≡ true → IsStillIn block new at (items_after_refit room new t xs)
refitted_own block at room new t xs here = elim (cases_Bool (nat_le new t)) [
  | inl fits ↦ rw (fits, here) refl
  | inr more ↦ rw more (grown_own block at room new t xs here)
]

pub refit_own : (block end new at : ℕ) (xs : List Item) → IsStillIn block new at (resized_in_place block end new at xs)
refit_own block end new at [] = tt
refit_own block end new at (Live t ∷ xs) = elim (cases_Bool (at + 4 == block)) [
  | inl here ↦ rw here (refitted_own block at (end - at) new t xs here)
  | inr away ↦ rw away (live_still block new at t (resized_in_place block end new (at + t) xs) away (refit_own block end new (at + t) xs))
]
refit_own block end new at (Free t ∷ xs) =
    pass_still block new at t (resized_in_place block end new (at + t) xs) (refit_own block end new (at + t) xs)

-- where a live block's bytes lie
pub record LiveBytes (block total at end : ℕ) : Type 0 where
  pub low : at + 4 ≤ block
  pub high : block + total ≤ end + 4
  pub size : 8 ≤ total
  pub whole : at % 4 ≡ 0 → block % 4 ≡ 0

pub law_live_bytes : (block total at : ℕ) (xs : List Item) → AreTotals xs → live_total block at xs ≡ Some total → LiveBytes block total at (at + size_of xs)
law_live_bytes block total at [] totals live = absurd (let none : None ≡ Some total = live in cc)
law_live_bytes block total at (Live t ∷ xs) totals live = elim (cases_Bool (at + 4 == block)) [
  | inl here ↦
      let e : at + 4 ≡ block = eqb-true (at + 4) block here in
      let found = rw here at live in
      let same : t ≡ total = cc in
      let facts = total_facts t totals.0 in
      record { low = omega arith; high = omega arith; size = omega arith; whole = λ (aligned : at % 4 ≡ 0). omega arith }
  | inr other ↦
      let rest : LiveBytes block total (at + t) (at + t + size_of xs) = law_live_bytes block total (at + t) xs totals.1 (rw other at live) in
      record { low = omega (arith, rest.low); high = omega (arith, rest.high); size = rest.size; whole = λ (aligned : at % 4 ≡ 0). rest.whole (omega (arith, total_facts t totals.0)) }
]
law_live_bytes block total at (Free t ∷ xs) totals live =
    let rest : LiveBytes block total (at + t) (at + t + size_of xs) = law_live_bytes block total (at + t) xs totals.1 live in
    record { low = omega (arith, rest.low); high = omega (arith, rest.high); size = rest.size; whole = λ (aligned : at % 4 ≡ 0). rest.whole (omega (arith, total_facts t totals.0)) }

-- two live blocks share no byte, nor do their length words
pub live_apart : (b t c u at : ℕ) (xs : List Item) → AreTotals xs → live_total b at xs ≡ Some t → live_total c at xs ≡ Some u → b ≢ c
    → (b + t ≤ c) ⊎ (c + u ≤ b)
live_apart b t c u at [] totals first second other = absurd (let none : None ≡ Some t = first in cc)
live_apart b t c u at (Live v ∷ xs) totals first second other = elim (cases_Bool (at + 4 == b)) [
  | inl here ↦
      let e : at + 4 ≡ b = eqb-true (at + 4) b here in
      let k = rw here at first in
      let size : v ≡ t = cc in
      let past : (at + 4 == c) ≡ false = ne_eqb (at + 4) c (λ (k : at + 4 ≡ c). other (sym e ∙ k)) in
      let low : at + v + 4 ≤ c = live_low c (at + v) xs (ap is_some (rw past at second)) in
      inl (omega arith)
  | inr away ↦ elim (cases_Bool (at + 4 == c)) [
    | inl here ↦
        let e : at + 4 ≡ c = eqb-true (at + 4) c here in
        let k = rw here at second in
        let size : v ≡ u = cc in
        let low : at + v + 4 ≤ b = live_low b (at + v) xs (ap is_some (rw away at first)) in
        inr (omega arith)
    | inr nor ↦ live_apart b t c u (at + v) xs totals.1 (rw away at first) (rw nor at second) other
  ]
]
live_apart b t c u at (Free v ∷ xs) totals first second other = live_apart b t c u (at + v) xs totals.1 first second other

-- the words that a heap spells are not among them
head_past : (at : ℕ) (xs : List Item) (p : ℕ) → AreTotals xs → p < at → is_head at xs p ≡ false
head_past at xs p totals low = false_from_ne_true _ (λ is. let inside = head_inside at xs p totals is in omega (arith, inside.0))

not_here : (p at : ℕ) → at < p → (p == at) ≡ false
not_here p at above = ne_eqb p at (λ (e : p ≡ at). omega arith)

pub live_unspelled : (block total at : ℕ) (xs : List Item) (p : ℕ) → AreTotals xs → live_total block at xs ≡ Some total
    → block ≤ p → p + 4 < block + total → is_head at xs p ≡ false
live_unspelled block total at [] p totals live low high = refl
live_unspelled block total at (Live t ∷ xs) p totals live low high = elim (cases_Bool (at + 4 == block)) [
  | inl here ↦
      let e : at + 4 ≡ block = eqb-true (at + 4) block here in
      let found = rw here at live in
      let same : t ≡ total = cc in
      or_from (p == at) (is_head (at + t) xs p) (not_here p at (omega arith)) (head_past (at + t) xs p totals.1 (omega arith))
  | inr other ↦
      let rest = rw other at live in
      let below : at + t + 4 ≤ block = live_low block (at + t) xs (ap is_some rest) in
      or_from (p == at) (is_head (at + t) xs p) (not_here p at (omega arith)) (live_unspelled block total (at + t) xs p totals.1 rest low high)
]
live_unspelled block total at (Free t ∷ xs) p totals live low high =
    let below : at + t + 4 ≤ block = live_low block (at + t) xs (ap is_some live) in
    let size = total_facts t totals.0 in
    or_from _ (is_head (at + t) xs p)
    (or_from (p == at) (p == at + 4) (not_here p at (omega arith)) (not_here p (at + 4) (omega arith)))
    (live_unspelled block total (at + t) xs p totals.1 live low high)
