-- What the map asks of pages that go: that no recorded range has a byte in them.
use Rattle.std.proofs.Common.{◌≡◌, ℕ, ◌+◌, ◌-◌, ◌*◌, ◌/◌, ◌<◌, ◌≤◌, ◌&&◌, false, List, [], ◌∷◌, refl, sym, ◌∙◌, inl, inr, arith}
use Rattle.std.specs.List.{list_any}
use Rattle.std.proofs.Math.Dec.{ltb}
use Rattle.std.proofs.lemmas.Bool.{cases_Bool, cases_lt, ltb-true, and_parts, or_parts, false≢true, false_from_ne_true}
use Rattle.os_heap.proofs.InRange.{range_inside}
use Rattle.os_heap.specs.Region.{Region}
use Rattle.os_heap.specs.Bytes.{Bytes, shares_address}
use Rattle.os_heap.specs.Records.{is_heap_kind, meets_record}
use Rattle.os_heap.specs.Store.{AreClear, IsClearOfHeaps, heaps_in, others_in}
use Rattle.os_heap.proofs.RangeTests.{clear_unless, range_high, range_low}
use Rattle.os_heap.specs.lists.Heap.{HeapList}
use Rattle.dynamic_areas.specs.Changing.{AreRangesClear}

pub unmet : (at len other other_len : ℕ) → AreClear at len other other_len → shares_address at len other other_len ≡ false
unmet at len other other_len clear =
    false_from_ne_true (shares_address at len other other_len) (λ met.
    let parts = and_parts (ltb 0 len && ltb 0 other_len) (ltb at (other + other_len) && ltb other (at + len)) met in
    let some = and_parts (ltb 0 len) (ltb 0 other_len) parts.0 in
    let cross = and_parts (ltb at (other + other_len)) (ltb other (at + len)) parts.1 in
    let long : 0 < len = ltb-true 0 len some.0 in
    let other_long : 0 < other_len = ltb-true 0 other_len some.1 in
    let before : at < other + other_len = ltb-true at (other + other_len) cross.0 in
    let after : other < at + len = ltb-true other (at + len) cross.1 in
    elim (cases_lt at other) [
      | inl first ↦ false≢true (sym (clear other (range_inside at len other (omega arith) after)) ∙ range_inside other other_len other (omega arith) (omega arith))
      | inr later ↦ false≢true (sym (clear at (range_inside at len at (omega arith) (omega arith))) ∙ range_inside other other_len at later before)
    ])

pub unmet_records : (b : Bytes) (at len : ℕ) (rs : List Region) → IsClearOfHeaps at len (heaps_in b rs) → AreRangesClear at len (others_in rs)
    → meets_record rs at len ≡ false
unmet_records b at len [] heaps ranges = refl
unmet_records b at len (r ∷ rs) heaps ranges =
    elim (cases_Bool (is_heap_kind r.kind)) [
      | inl heap ↦
          let heaps' = rw heap at heaps in
          let ranges' = rw heap at ranges in
          rw (unmet at len r.at r.len heaps'.0, unmet_records b at len rs heaps'.1 ranges') refl
      | inr other ↦
          let heaps' = rw other at heaps in
          let ranges' = rw other at ranges in
          rw (unmet at len r.at r.len ranges'.0, unmet_records b at len rs heaps' ranges'.1) refl
    ]

-- what is so of each page is so of all pages together
page_of : (base first count x : ℕ) → base + 4096 * first ≤ x → x < base + 4096 * first + 4096 * count
    → (k : ℕ) × (first ≤ k) × (k < first + count) × (base + 4096 * k ≤ x) × (x < base + 4096 * k + 4096)
page_of base first count x low high = ((x - base) / 4096, omega arith, omega arith, omega arith, omega arith)

pub clear_by_pages : (base first count other other_len : ℕ)
    → ((k : ℕ) → first ≤ k → k < first + count → AreClear (base + 4096 * k) 4096 other other_len)
    → AreClear (base + 4096 * first) (4096 * count) other other_len
clear_by_pages base first count other other_len all x inside =
    let p = page_of base first count x (range_low (base + 4096 * first) (4096 * count) x inside) (range_high (base + 4096 * first) (4096 * count) x inside) in
    all p.0 p.1 p.2 x (range_inside (base + 4096 * p.0) 4096 x p.3 p.4)

pub heaps_by_pages : (base first count : ℕ) (hs : List HeapList) → ((k : ℕ) → first ≤ k → k < first + count → IsClearOfHeaps (base + 4096 * k) 4096 hs)
    → IsClearOfHeaps (base + 4096 * first) (4096 * count) hs
heaps_by_pages base first count [] all = tt
heaps_by_pages base first count (h ∷ hs) all = (
  clear_by_pages base first count h.start h.end (λ k low high. (all k low high).0),
  heaps_by_pages base first count hs (λ k low high. (all k low high).1),
)

pub ranges_by_pages : (base first count : ℕ) (rs : List Region) → ((k : ℕ) → first ≤ k → k < first + count → AreRangesClear (base + 4096 * k) 4096 rs)
    → AreRangesClear (base + 4096 * first) (4096 * count) rs
ranges_by_pages base first count [] all = tt
ranges_by_pages base first count (r ∷ rs) all = (
  clear_by_pages base first count r.at r.len (λ k low high. (all k low high).0),
  ranges_by_pages base first count rs (λ k low high. (all k low high).1),
)

pub clear_of_ranges : (at len : ℕ) (rs : List Region) → list_any (λ r. shares_address at len r.at r.len) rs ≡ false → AreRangesClear at len rs
clear_of_ranges at len [] none = tt
clear_of_ranges at len (r ∷ rs) none =
    let parts = or_parts (shares_address at len r.at r.len) (list_any (λ r. shares_address at len r.at r.len) rs) none in
    (clear_unless at len r.at r.len parts.0, clear_of_ranges at len rs parts.1)
