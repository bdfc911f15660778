-- The pages at an area's top that can go have no byte of a recorded range.
use Rattle.std.proofs.Common.{◌≡◌, ◌≢◌, ℕ, ◌+◌, ◌-◌, ◌*◌, ◌/◌, ◌<◌, ◌≤◌, Bool, false, suc, zero, inl, inr, arith}
use Rattle.std.proofs.lemmas.Bool.{cases_Bool, cases_lt, ne_eqb}
use Rattle.os_heap.specs.Store.{Store, IsClearOfHeaps}
use Rattle.os_heap.proofs.Anchors.{among_none, none_among}
use Rattle.os_heap.specs.Records.{anchor_among}
use Rattle.os_heap.proofs.RangeTests.{clear_of_heaps, unmet}
use Rattle.dynamic_areas.specs.declared.area.Area.{Area}
use Rattle.dynamic_areas.specs.Changing.{AreLoose, AreRangesClear, must_stay, held_from, loose_pages}
use Rattle.dynamic_areas.proofs.RecordLemmas.{heaps_by_pages, ranges_by_pages, clear_of_ranges}

pub held_most : (stays : ℕ → Bool) (base n : ℕ) → held_from stays base n ≤ n
held_most stays base zero = omega arith
held_most stays base (suc n) =
    elim (cases_Bool (stays (base + 4096 * n))) [
      | inl held ↦ rw held (omega arith)
      | inr loose ↦ rw loose (omega (arith, held_most stays base n))
    ]

pub held_above : (stays : ℕ → Bool) (base n k : ℕ) → held_from stays base n ≤ k → k < n → stays (base + 4096 * k) ≡ false
held_above stays base zero k low high = absurd (omega arith)
held_above stays base (suc n) k low high =
    elim (cases_Bool (stays (base + 4096 * n))) [
      | inl held ↦ let low' = rw held at low in absurd (omega arith)
      | inr loose ↦
          let low' = rw loose at low in
          elim (cases_lt k n) [
            | inl below ↦ held_above stays base n k low' below
            | inr last ↦ let same : k ≡ n = omega arith in rw same loose
          ]
    ]

pub page_free : (s : Store) (a : Area) (count k : ℕ) → count ≤ loose_pages s a → a.pages - count ≤ k → k < a.pages - count + count
    → must_stay s a.number (a.base + 4096 * k) ≡ false
page_free s a count k loose low high =
    let most : held_from (must_stay s a.number) a.base a.pages ≤ a.pages = held_most (must_stay s a.number) a.base a.pages in
    held_above (must_stay s a.number) a.base a.pages k (omega arith) (omega arith)

unmet_page : (s : Store) (number page : ℕ) → number ≢ 1 → must_stay s number page ≡ false
    → (IsClearOfHeaps page 4096 s.heaps) × (AreRangesClear page 4096 s.others × (anchor_among s.anchor page 4096 ≡ false))
unfolding must_stay
unmet_page s number page other free =
    let none = rw (ne_eqb number 1 other) at free in
    let parts = unmet page 4096 s none in
    (clear_of_heaps page 4096 s.heaps parts.0.0, (clear_of_ranges page 4096 s.others parts.0.1, parts.1))

anchors_by_pages : (base first count : ℕ) (anchor : ℕ → Bool) → ((k : ℕ) → first ≤ k → k < first + count → anchor_among anchor (base + 4096 * k) 4096 ≡ false)
    → anchor_among anchor (base + 4096 * first) (4096 * count) ≡ false
anchors_by_pages base first count anchor none =
    among_none anchor (base + 4096 * first) (4096 * count) (λ a low high.
    let k : ℕ = (a - base) / 4096 in
    none_among anchor (base + 4096 * k) 4096 a (none k (omega arith) (omega arith)) (omega arith) (omega arith))

pub loose_created : (s : Store) (a : Area) (count : ℕ) → a.number ≢ 1 → count ≤ loose_pages s a → AreLoose s a count
loose_created s a count other loose = record {
  fits = omega arith;
  heaps = heaps_by_pages a.base (a.pages - count) count s.heaps
      (λ k low high. (unmet_page s a.number (a.base + 4096 * k) other (page_free s a count k loose low high)).0);
  ranges = ranges_by_pages a.base (a.pages - count) count s.others
      (λ k low high. (unmet_page s a.number (a.base + 4096 * k) other (page_free s a count k loose low high)).1.0);
  anchors = anchors_by_pages a.base (a.pages - count) count s.anchor
      (λ k low high. (unmet_page s a.number (a.base + 4096 * k) other (page_free s a count k loose low high)).1.1);
}
