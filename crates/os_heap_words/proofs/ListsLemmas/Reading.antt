-- A heap has one list: where memory spells a list of items, reading the words gives that list.
use Rattle.std.proofs.Common.{◌-◌, ◌≡◌, ◌≤◌, ℕ, true, ◌%◌, arith, inl, ◌+◌, [], ◌⊎◌, refl, List, inr, ◌∷◌, ◌<◌, suc, zero}
use Rattle.std.proofs.lemmas.Bool.{and_parts, leb-true, eqb-true, ne_eqb, lt-leb, eq-eqb, le-leb}
use Rattle.address_map.specs.Bytes.{Bytes, word_at}
use Rattle.address_map.specs.Items.{is_total, link_target, items_from, size_of, items_in}
use Rattle.address_map.specs.declared.item.Item.{Item}
use Rattle.address_map.specs.declared.item.Item.TheVariants.{Free, Live}
use Rattle.os_heap_words.specs.lists.Heap.{next_free, AreTotals, Spells, IsHeapIn}
use Rattle.os_heap_words.specs.lists.Laws.{ReadsHeap}

-- a total is a multiple of 8 above 0
pub total_facts : (t : ℕ) → is_total t ≡ true → (8 ≤ t) × (t % 8 ≡ 0)
total_facts t h =
    let parts = and_parts _ _ h in
    (leb-true 8 t parts.0, eqb-true (t % 8) 0 parts.1)

-- the next free item is not before the first one, if there is any
pub next_free-cases : (at : ℕ) (xs : List Item) (other : ℕ) → (next_free at xs other ≡ other) ⊎ (at ≤ next_free at xs other)
next_free-cases at [] other = inl refl
next_free-cases at (Live t ∷ xs) other = elim (next_free-cases (at + t) xs other) [ inl none ↦ inl none | inr some ↦ inr (omega arith) ]
next_free-cases at (Free t ∷ xs) other = inr (omega arith)

-- a distance of 0 is no link, so where it leads is the next free item, or 0
pub linked_to : (from at : ℕ) (xs : List Item) → from < at → link_target from (next_free at xs 0 - from) ≡ next_free at xs 0
linked_to from at xs below = found (next_free at xs 0) (next_free-cases at xs 0) where
  found : (next : ℕ) → (next ≡ 0) ⊎ (at ≤ next) → link_target from (next - from) ≡ next
  found next (inl none) = let e : next - from ≡ 0 = omega arith in rw (e, none) refl
  found next (inr some) = let ne : next - from ≡ 0 → ⊥ = λ (z : next - from ≡ 0). omega arith in rw (ne_eqb (next - from) 0 ne) (omega arith)

read_live : (w : ℕ → ℕ) (most at free base t : ℕ) → w at ≡ t → is_total t ≡ true → at < base → (at ≡ free → ⊥)
    → items_from (suc most) w at free base ≡ Live t ∷ items_from most w (at + t) free base
read_live w most at free base t word total below apart = rw (lt-leb base at below, ne_eqb at free apart, word, total) refl

read_free : (w : ℕ → ℕ) (most at base t : ℕ) → w (at + 4) ≡ t → is_total t ≡ true → at < base
    → items_from (suc most) w at at base ≡ Free t ∷ items_from most w (at + t) (link_target at (w at)) base
read_free w most at base t word total below = rw (lt-leb base at below, eq-eqb at at refl, word, total) refl

read_none : (w : ℕ → ℕ) (most at free : ℕ) → items_from most w at free at ≡ []
read_none w zero at free = refl
read_none w (suc most) at free = rw (le-leb at at (omega arith)) refl

pub items_from-spelled : (w : ℕ → ℕ) (most at base : ℕ) (xs : List Item) → 0 < at → at + size_of xs ≡ base → size_of xs ≤ most
    → AreTotals xs → Spells w at xs 0 → items_from most w at (next_free at xs 0) base ≡ xs
items_from-spelled w most at base [] positive end enough totals spelled =
    let e : base ≡ at = omega arith in rw e (read_none w most at 0)
items_from-spelled w zero at base (Live t ∷ xs) positive end enough totals spelled =
    absurd (omega (arith, total_facts t totals.0))
items_from-spelled w zero at base (Free t ∷ xs) positive end enough totals spelled =
    absurd (omega (arith, total_facts t totals.0))
items_from-spelled w (suc most) at base (Live t ∷ xs) positive end enough totals spelled =
    let high = (total_facts t totals.0).0 in
    let rest : items_from most w (at + t) (next_free (at + t) xs 0) base ≡ xs =
    items_from-spelled w most (at + t) base xs (omega arith) (omega arith) (omega arith) totals.1 spelled.1 in
    let apart : at ≡ next_free (at + t) xs 0 → ⊥ = λ (same : at ≡ next_free (at + t) xs 0).
    elim (next_free-cases (at + t) xs 0) [ inl none ↦ omega arith | inr some ↦ omega arith ] in
    rw (read_live w most at (next_free (at + t) xs 0) base t spelled.0 totals.0 (omega arith) apart, rest) refl
items_from-spelled w (suc most) at base (Free t ∷ xs) positive end enough totals spelled =
    let high = (total_facts t totals.0).0 in
    let rest : items_from most w (at + t) (next_free (at + t) xs 0) base ≡ xs =
    items_from-spelled w most (at + t) base xs (omega arith) (omega arith) (omega arith) totals.1 spelled.1.1 in
    rw (read_free w most at base t spelled.1.0 totals.0 (omega arith), spelled.0, linked_to at (at + t) xs (omega arith), rest) refl

pub items_in-heap : (b : Bytes) (start end : ℕ) (items : List Item) → IsHeapIn b start end items → items_in (word_at b.at) start ≡ items
unfolding items_in
items_in-heap b start end items heap =
    let here : link_target start (word_at b.at (start + 4)) ≡ next_free (start + 16) items 0 =
    rw heap.first (linked_to start (start + 16) items (omega arith)) in
    rw (here, heap.base) (items_from-spelled (word_at b.at) (16 + size_of items) (start + 16) (start + (16 + size_of items)) items
    (omega arith) (omega arith) (omega arith) heap.totals heap.spelled)

pub reads_heap : ReadsHeap
reads_heap b start end items heap = items_in-heap b start end items heap
