-- How much of a heap's list is counted: no more than there is, and a claim makes no free item more.
use Rattle.std.proofs.Common.{length, arith, inl, ◌+◌, ◌≤◌, [], List, ℕ, inr, ◌∷◌, ◌-◌, ◌≡◌, ◌++◌, ◌==◌, None, Option, Some}
use Rattle.std.proofs.lemmas.Bool.{cases_Bool}
use Rattle.std.specs.Prelude.{nat_le, nat_lt}
use Rattle.address_map.specs.Items.{size_of}
use Rattle.address_map.specs.declared.item.Item.{Item}
use Rattle.address_map.specs.declared.item.Item.TheVariants.{Free, Live}
use Rattle.os_heap_words.specs.lists.Counts.{begun_below, looked_at, free_count, free_below}
use Rattle.os_heap_words.specs.lists.Lists.{left_free, Claim, claim_behind, first_fit, or_at_base, claim_in_items}

pub begun_most : (block at : ℕ) (xs : List Item) → begun_below block at xs ≤ length xs
begun_most block at [] = omega arith
begun_most block at (Live t ∷ xs) = elim (cases_Bool (nat_le (at + 4) block)) [
  | inl low ↦ rw low (omega (arith, begun_most block (at + t) xs))
  | inr high ↦ rw high (omega arith)
]
begun_most block at (Free t ∷ xs) = elim (cases_Bool (nat_le (at + 4) block)) [
  | inl low ↦ rw low (omega (arith, begun_most block (at + t) xs))
  | inr high ↦ rw high (omega arith)
]

pub looked_most : (n : ℕ) (xs : List Item) → looked_at n xs ≤ free_count xs
looked_most n [] = omega arith
looked_most n (Live t ∷ xs) = looked_most n xs
looked_most n (Free t ∷ xs) = elim (cases_Bool (nat_le n t)) [
  | inl fits ↦ rw fits (omega arith)
  | inr less ↦ rw less (omega (arith, looked_most n xs))
]

pub below_most : (block at : ℕ) (xs : List Item) → free_below block at xs ≤ free_count xs
below_most block at [] = omega arith
below_most block at (Live t ∷ xs) = below_most block (at + t) xs
below_most block at (Free t ∷ xs) = elim (cases_Bool (nat_lt at block)) [
  | inl low ↦ rw low (omega (arith, below_most block (at + t) xs))
  | inr high ↦ rw high (omega arith)
]

free_count-append : (xs ys : List Item) → free_count (xs ++ ys) ≡ free_count xs + free_count ys
free_count-append [] ys = omega arith
free_count-append (Live t ∷ xs) ys = free_count-append xs ys
free_count-append (Free t ∷ xs) ys = omega (arith, free_count-append xs ys)

left_most : (n : ℕ) → free_count (left_free n) ≤ 1
left_most n = elim (cases_Bool (n == 0)) [ inl none ↦ rw none (omega arith) | inr some ↦ rw some (omega arith) ]

-- a claim makes no free item more
abbrev pub IsNoMore : List Item → Option Claim → Type 0
IsNoMore xs None = Unit {0}
IsNoMore xs (Some c) = free_count c.items ≤ free_count xs

behind_live : (t : ℕ) (xs : List Item) (c : Option Claim) → IsNoMore xs c → IsNoMore (Live t ∷ xs) (claim_behind (Live t) c)
behind_live t xs None h = tt
behind_live t xs (Some c) h = h

behind_free : (t : ℕ) (xs : List Item) (c : Option Claim) → IsNoMore xs c → IsNoMore (Free t ∷ xs) (claim_behind (Free t) c)
behind_free t xs None h = tt
behind_free t xs (Some c) h = omega (arith, h)

fit_no_more : (n : ℕ) (xs : List Item) → IsNoMore xs (first_fit n xs)
fit_no_more n [] = tt
fit_no_more n (Live t ∷ xs) = behind_live t xs (first_fit n xs) (fit_no_more n xs)
fit_no_more n (Free t ∷ xs) = elim (cases_Bool (nat_le n t)) [
  | inl fits ↦ rw fits (omega (arith, free_count-append (left_free (t - n)) xs, left_most (t - n)))
  | inr less ↦ rw less (behind_free t xs (first_fit n xs) (fit_no_more n xs))
]

base_no_more : (n room : ℕ) (xs : List Item) (c : Option Claim) → IsNoMore xs c → IsNoMore xs (or_at_base n room xs c)
base_no_more n room xs (Some c) h = h
base_no_more n room xs None h = elim (cases_Bool (nat_le (size_of xs + n) room)) [
  | inl fits ↦ rw fits (omega (arith, free_count-append xs (Live n ∷ [])))
  | inr full ↦ rw full tt
]

pub claim_no_more : (n room : ℕ) (xs : List Item) → IsNoMore xs (claim_in_items n room xs)
unfolding claim_in_items
claim_no_more n room xs = base_no_more n room xs (first_fit n xs) (fit_no_more n xs)
