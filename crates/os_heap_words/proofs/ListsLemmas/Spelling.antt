-- Lists of items and the words that they spell: parts of a list, and a list whose last link
-- changes.
use Rattle.std.proofs.Common.{◌-◌, arith, ◌+◌, [], ◌≡◌, List, ◌++◌, ◌∷◌, refl, ◌%◌, true, ℕ, add_assoc, ◌∙◌, add-zero, sym, ap, inl, ◌≤◌, ◌⊎◌, inr, ◌<◌}
use Rattle.std.proofs.lemmas.Bool.{false≢true}
use Rattle.std.proofs.lemmas.Bool.Decides.{nat_tests}
use Rattle.address_map.specs.Items.{size_of, is_total}
use Rattle.address_map.specs.declared.item.Item.{Item}
use Rattle.address_map.specs.declared.item.Item.TheVariants.{Free, Live}
use Rattle.os_heap_words.proofs.ListsLemmas.Reading.{total_facts}
use Rattle.os_heap_words.specs.lists.Heap.{AreTotals, begins_live, AreSpaced, next_free, last_free, Spells}
use Rattle.os_heap_words.specs.lists.Words.{AreApart}

pub size_of-append : (xs ys : List Item) → size_of (xs ++ ys) ≡ size_of xs + size_of ys
size_of-append [] ys = omega arith
size_of-append (x ∷ xs) ys = omega (arith, size_of-append xs ys)

pub size_of-multiple : (xs : List Item) → AreTotals xs → size_of xs % 8 ≡ 0
size_of-multiple [] h = refl
size_of-multiple (Live t ∷ xs) h = omega (arith, total_facts t h.0, size_of-multiple xs h.1)
size_of-multiple (Free t ∷ xs) h = omega (arith, total_facts t h.0, size_of-multiple xs h.1)

pub totals-join : (xs ys : List Item) → AreTotals xs → AreTotals ys → AreTotals (xs ++ ys)
totals-join [] ys h g = g
totals-join (Live t ∷ xs) ys h g = (h.0, totals-join xs ys h.1 g)
totals-join (Free t ∷ xs) ys h g = (h.0, totals-join xs ys h.1 g)

pub totals-front : (xs ys : List Item) → AreTotals (xs ++ ys) → AreTotals xs
totals-front [] ys h = tt
totals-front (Live t ∷ xs) ys h = (h.0, totals-front xs ys h.1)
totals-front (Free t ∷ xs) ys h = (h.0, totals-front xs ys h.1)

pub totals-back : (xs ys : List Item) → AreTotals (xs ++ ys) → AreTotals ys
totals-back [] ys h = h
totals-back (Live t ∷ xs) ys h = totals-back xs ys h.1
totals-back (Free t ∷ xs) ys h = totals-back xs ys h.1

begins-front : (xs ys : List Item) → begins_live xs ≡ true → begins_live (xs ++ ys) ≡ true
begins-front [] ys h = absurd (false≢true h)
begins-front (Live t ∷ xs) ys h = refl
begins-front (Free t ∷ xs) ys h = h

pub spaced-join : (xs ys : List Item) → AreSpaced xs → AreSpaced ys → AreSpaced (xs ++ ys)
spaced-join [] ys h g = g
spaced-join (Live t ∷ xs) ys h g = spaced-join xs ys h g
spaced-join (Free t ∷ xs) ys h g = (begins-front xs ys h.0, spaced-join xs ys h.1 g)

pub spaced-back : (xs ys : List Item) → AreSpaced (xs ++ ys) → AreSpaced ys
spaced-back [] ys h = h
spaced-back (Live t ∷ xs) ys h = spaced-back xs ys h
spaced-back (Free t ∷ xs) ys h = spaced-back xs ys h.1

-- what is before a free item is spaced by itself
begins-before : (xs ys : List Item) (t : ℕ) → begins_live (xs ++ Free t ∷ ys) ≡ true → begins_live xs ≡ true
begins-before [] ys t h = h
begins-before (Live u ∷ xs) ys t h = refl
begins-before (Free u ∷ xs) ys t h = h

pub spaced-before : (xs ys : List Item) (t : ℕ) → AreSpaced (xs ++ Free t ∷ ys) → AreSpaced xs
spaced-before [] ys t h = tt
spaced-before (Live u ∷ xs) ys t h = spaced-before xs ys t h
spaced-before (Free u ∷ xs) ys t h = (begins-before xs ys t h.0, spaced-before xs ys t h.1)

pub next_free-append : (at : ℕ) (xs ys : List Item) (z : ℕ) → next_free at (xs ++ ys) z ≡ next_free at xs (next_free (at + size_of xs) ys z)
next_free-append at [] ys z = ap (λ (p : ℕ). next_free p ys z) (sym (add-zero at))
next_free-append at (Live t ∷ xs) ys z =
    next_free-append (at + t) xs ys z ∙ ap (λ (p : ℕ). next_free (at + t) xs (next_free p ys z)) (add_assoc at t (size_of xs))
next_free-append at (Free t ∷ xs) ys z = refl

pub last_free-append : (from at : ℕ) (xs ys : List Item) → last_free from at (xs ++ ys) ≡ last_free (last_free from at xs) (at + size_of xs) ys
last_free-append from at [] ys = ap (λ (p : ℕ). last_free from p ys) (sym (add-zero at))
last_free-append from at (Live t ∷ xs) ys =
    last_free-append from (at + t) xs ys ∙ ap (λ (p : ℕ). last_free (last_free from (at + t) xs) p ys) (add_assoc at t (size_of xs))
last_free-append from at (Free t ∷ xs) ys =
    last_free-append at (at + t) xs ys ∙ ap (λ (p : ℕ). last_free (last_free at (at + t) xs) p ys) (add_assoc at t (size_of xs))

-- the next free item is one of these, or what the list was given
pub next_free-bounds : (at : ℕ) (xs : List Item) (z : ℕ) → AreTotals xs
    → (next_free at xs z ≡ z) ⊎ ((at ≤ next_free at xs z) × (next_free at xs z + 8 ≤ at + size_of xs))
next_free-bounds at [] z h = inl refl
next_free-bounds at (Live t ∷ xs) z h = elim (next_free-bounds (at + t) xs z h.1) [
  | inl e ↦ inl e
  | inr b ↦ inr (omega (arith, b.0), omega (arith, b.1))
]
next_free-bounds at (Free t ∷ xs) z h = inr (omega arith, omega (arith, total_facts t h.0))

-- none of the items is free, and then the next free one lies after them; or the last free one is
-- among them
pub record NoneFree (from at : ℕ) (xs : List Item) : Type 0 where
  pub last : last_free from at xs ≡ from
  pub next : (z : ℕ) → next_free at xs z ≡ z

pub record OneFree (from at : ℕ) (xs : List Item) : Type 0 where
  pub low : at ≤ last_free from at xs
  pub high : last_free from at xs + 8 ≤ at + size_of xs
  pub next : (y z : ℕ) → next_free at xs y ≡ next_free at xs z
  pub any : (other : ℕ) → last_free other at xs ≡ last_free from at xs

pub last_free-cases : (from at : ℕ) (xs : List Item) → AreTotals xs → NoneFree from at xs ⊎ OneFree from at xs
last_free-cases from at [] h = inl (record { last = refl; next = λ z. refl })
last_free-cases from at (Live t ∷ xs) h = elim (last_free-cases from (at + t) xs h.1) [
  | inl n ↦ inl (record { last = n.last; next = n.next })
  | inr o ↦ inr (record { low = omega (arith, o.low); high = omega (arith, o.high); next = o.next; any = o.any })
]
last_free-cases from at (Free t ∷ xs) h = elim (last_free-cases at (at + t) xs h.1) [
  | inl n ↦ inr (record { low = omega (arith, n.last); high = omega (arith, n.last, total_facts t h.0); next = λ y z. refl; any = λ other. refl })
  | inr o ↦ inr (record { low = omega (arith, o.low); high = omega (arith, o.high); next = λ y z. refl; any = λ other. refl })
]

pub spells-front : (w : ℕ → ℕ) (at : ℕ) (xs ys : List Item) (z : ℕ) → Spells w at (xs ++ ys) z → Spells w at xs (next_free (at + size_of xs) ys z)
spells-front w at [] ys z h = tt
spells-front w at (Live t ∷ xs) ys z h =
    let e : next_free (at + t + size_of xs) ys z ≡ next_free (at + (t + size_of xs)) ys z = ap (λ (p : ℕ). next_free p ys z) (add_assoc at t (size_of xs)) in
    (h.0, rw e at (spells-front w (at + t) xs ys z h.1))
spells-front w at (Free t ∷ xs) ys z h =
    let e : next_free (at + t + size_of xs) ys z ≡ next_free (at + (t + size_of xs)) ys z = ap (λ (p : ℕ). next_free p ys z) (add_assoc at t (size_of xs)) in (
      h.0 ∙ ap (λ (p : ℕ). p - at) (next_free-append (at + t) xs ys z) ∙ ap (λ (p : ℕ). next_free (at + t) xs p - at) e,
      (h.1.0, rw e at (spells-front w (at + t) xs ys z h.1.1)),
    )

pub spells-back : (w : ℕ → ℕ) (at : ℕ) (xs ys : List Item) (z : ℕ) → Spells w at (xs ++ ys) z → Spells w (at + size_of xs) ys z
spells-back w at [] ys z h = rw add-zero h
spells-back w at (Live t ∷ xs) ys z h = rw (← add_assoc at t (size_of xs)) (spells-back w (at + t) xs ys z h.1)
spells-back w at (Free t ∷ xs) ys z h = rw (← add_assoc at t (size_of xs)) (spells-back w (at + t) xs ys z h.1.1)

pub spells-join : (w : ℕ → ℕ) (at : ℕ) (xs ys : List Item) (z : ℕ) → Spells w at xs (next_free (at + size_of xs) ys z)
    → Spells w (at + size_of xs) ys z → Spells w at (xs ++ ys) z
spells-join w at [] ys z h g = rw add-zero at g
spells-join w at (Live t ∷ xs) ys z h g =
    let e : next_free (at + (t + size_of xs)) ys z ≡ next_free (at + t + size_of xs) ys z = ap (λ (p : ℕ). next_free p ys z) (sym (add_assoc at t (size_of xs))) in
    (h.0, spells-join w (at + t) xs ys z (rw e at h.1) (rw (add_assoc at t (size_of xs)) g))
spells-join w at (Free t ∷ xs) ys z h g =
    let e : next_free (at + (t + size_of xs)) ys z ≡ next_free (at + t + size_of xs) ys z = ap (λ (p : ℕ). next_free p ys z) (sym (add_assoc at t (size_of xs))) in (
      h.0 ∙ ap (λ (p : ℕ). next_free (at + t) xs p - at) e ∙ ap (λ (p : ℕ). p - at) (sym (next_free-append (at + t) xs ys z)),
      (h.1.0, spells-join w (at + t) xs ys z (rw e at h.1.1) (rw (add_assoc at t (size_of xs)) g)),
    )

-- the same words spell the same items
pub spells-kept : (v w : ℕ → ℕ) (at : ℕ) (xs : List Item) (z : ℕ) → AreTotals xs → Spells v at xs z
    → ((a : ℕ) → at ≤ a → a + 4 ≤ at + size_of xs → w a ≡ v a) → Spells w at xs z
spells-kept v w at [] z totals h same = tt
spells-kept v w at (Live t ∷ xs) z totals h same = (
  same at (omega arith) (omega (arith, total_facts t totals.0)) ∙ h.0,
  spells-kept v w (at + t) xs z totals.1 h.1 (λ a low high. same a (omega arith) (omega arith)),
)
spells-kept v w at (Free t ∷ xs) z totals h same = (
  same at (omega arith) (omega (arith, total_facts t totals.0)) ∙ h.0,
  (
    same (at + 4) (omega arith) (omega (arith, total_facts t totals.0)) ∙ h.1.0,
    spells-kept v w (at + t) xs z totals.1 h.1.1 (λ a low high. same a (omega arith) (omega arith)),
  ),
)

-- the last link leads elsewhere, and all other words are the same
pub spells-relinked : (v w : ℕ → ℕ) (from at : ℕ) (xs : List Item) (y z : ℕ) → from + 4 ≤ at → AreTotals xs → Spells v at xs y
    → (at ≤ last_free from at xs → w (last_free from at xs) ≡ z - last_free from at xs)
    → ((a : ℕ) → at ≤ a → a + 4 ≤ at + size_of xs → AreApart a 4 (last_free from at xs) 4 → w a ≡ v a) → Spells w at xs z
spells-relinked v w from at [] y z below totals h link same = tt
spells-relinked v w from at (Live t ∷ xs) y z below totals h link same =
    let b : (8 ≤ t) × (t % 8 ≡ 0) = total_facts t totals.0 in (
      elim (last_free-cases from (at + t) xs totals.1) [
        | inl n ↦ same at (omega arith) (omega arith) (inr (omega (arith, n.last))) ∙ h.0
        | inr o ↦ same at (omega arith) (omega arith) (inl (omega (arith, o.low))) ∙ h.0
      ],
      spells-relinked v w from (at + t) xs y z (omega arith) totals.1 h.1 (λ low. link (omega arith))
          (λ a low high apart. same a (omega arith) (omega arith) apart),
    )
spells-relinked v w from at (Free t ∷ xs) y z below totals h link same =
    let b : (8 ≤ t) × (t % 8 ≡ 0) = total_facts t totals.0 in
    let rest : Spells w (at + t) xs z = spells-relinked v w at (at + t) xs y z (omega arith) totals.1 h.1.1 (λ low. link (omega arith))
    (λ a low high apart. same a (omega arith) (omega arith) apart) in
    elim (last_free-cases at (at + t) xs totals.1) [
      | inl n ↦
          let e : last_free at (at + t) xs ≡ at = n.last in
          let k = link (omega (arith, e)) in
          let k' = rw e at k in
          (k' ∙ ap (λ (p : ℕ). p - at) (sym (n.next z)), (same (at + 4) (omega arith) (omega arith) (inr (omega (arith, e))) ∙ h.1.0, rest))
      | inr o ↦ (
        same at (omega arith) (omega arith) (inl (omega (arith, o.low))) ∙ h.0 ∙ ap (λ (p : ℕ). p - at) (o.next y z),
        (same (at + 4) (omega arith) (omega arith) (inl (omega (arith, o.low))) ∙ h.1.0, rest),
      )
    ]

-- the last link leads to what is after the items
pub spells-last : (w : ℕ → ℕ) (from at : ℕ) (xs : List Item) (z : ℕ) → from < at → AreTotals xs → Spells w at xs z
    → at ≤ last_free from at xs → w (last_free from at xs) ≡ z - last_free from at xs
spells-last w from at [] z below totals h low = absurd (omega arith)
spells-last w from at (Live t ∷ xs) z below totals h low =
    elim (last_free-cases from (at + t) xs totals.1) [
      | inl n ↦ absurd (omega (arith, n.last))
      | inr o ↦ spells-last w from (at + t) xs z (omega arith) totals.1 h.1 o.low
    ]
spells-last w from at (Free t ∷ xs) z below totals h low =
    elim (last_free-cases at (at + t) xs totals.1) [
      | inl n ↦ rw n.last (h.0 ∙ ap (λ (p : ℕ). p - at) (n.next z))
      | inr o ↦ spells-last w at (at + t) xs z (omega (arith, total_facts t totals.0)) totals.1 h.1.1 o.low
    ]

pub total_of-numbers : (t : ℕ) → 8 ≤ t → t % 8 ≡ 0 → is_total t ≡ true
total_of-numbers t least whole = grind (arith, nat_tests)
