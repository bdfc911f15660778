-- What the change of a heap's size answers, case by case, and what it looks at.
use Rattle.std.proofs.Common.{◌≡◌, None, refl, ℕ, Err, Bool, false, Some, true, cond, ap, ◌≢◌, ◌%◌, arith, inl, inr, ◌<◌, ◌==◌, ◌+◌, Ok}
use Rattle.std.proofs.lemmas.Bool.{ne_eqb, eq-eqb, cases_Bool, lt-ltb}
use Rattle.os_heap_words.specs.ErrorNumber.TheVariants.{HeapBadDesc, HeapBadRegion, HeapOverlaps, HeapBadShrink}
use Rattle.os_heap_words.specs.Bytes.{Bytes}
use Rattle.os_heap_words.specs.Items.{size_of}
use Rattle.os_heap_words.specs.lists.Heap.{HeapList}
use Rattle.os_heap_words.specs.lists.Lists.{changed_by}
use Rattle.os_heap.proofs.RangeTests.{can_hold}
use Rattle.os_heap.specs.Calls.{store_after_change, has_own_size, end_changed, ending}
use Rattle.os_heap.specs.Probes.{change_probes, change_probes_of, counted_of, end_probes, growth_probes}
use Rattle.os_heap.specs.Ranges.{MayEnd, is_heap_region, overgrows}
use Rattle.os_heap.specs.Store.{Store, find_heap}

pub changed_none : (s : Store) (heap change : ℕ) → find_heap heap s.heaps ≡ None → store_after_change s heap change ≡ Err HeapBadDesc
unfolding store_after_change
changed_none s heap change none = rw none refl

pub changed_area : (s : Store) (heap change : ℕ) (h : HeapList) → find_heap heap s.heaps ≡ Some h → has_own_size h.kind ≡ false
    → store_after_change s heap change ≡ Err HeapBadDesc
unfolding store_after_change
changed_area s heap change h found area = rw (found, area) refl

pub changed_own : (s : Store) (heap change : ℕ) (h : HeapList) → find_heap heap s.heaps ≡ Some h → has_own_size h.kind ≡ true
    → store_after_change s heap change ≡ end_changed s h change (changed_by h.end change)
unfolding store_after_change
changed_own s heap change h found own = rw (found, own) refl

pub end_odd : (s : Store) (h : HeapList) (change end : ℕ) → change % 4 ≢ 0 → end_changed s h change end ≡ Err HeapBadRegion
end_odd s h change end odd = rw (ne_eqb (change % 4) 0 odd) refl

pub end_bad : (s : Store) (h : HeapList) (change end : ℕ) → change % 4 ≡ 0 → is_heap_region s.bytes h.start end ≡ false
    → end_changed s h change end ≡ Err HeapBadRegion
end_bad s h change end whole bad = rw (eq-eqb (change % 4) 0 whole, bad) refl

wide_region : (b : Bytes) (at end : ℕ) → 16777216 < end → is_heap_region b at end ≡ false
wide_region b at end wide =
    elim (cases_Bool (is_heap_region b at end)) [
      | inl is ↦ absurd (omega (arith, (can_hold b at end is).high))
      | inr not_one ↦ not_one
    ]

pub end_wide : (s : Store) (h : HeapList) (change end : ℕ) → 16777216 < end → end_changed s h change end ≡ Err HeapBadRegion
end_wide s h change end wide =
    elim (cases_Bool (change % 4 == 0)) [
      | inl whole ↦ rw (whole, wide_region s.bytes h.start end wide) refl
      | inr odd ↦ rw odd refl
    ]

pub end_over : (s : Store) (h : HeapList) (change end : ℕ) → change % 4 ≡ 0 → is_heap_region s.bytes h.start end ≡ true
    → overgrows s h end ≡ true → end_changed s h change end ≡ Err HeapOverlaps
end_over s h change end whole good over = rw (eq-eqb (change % 4) 0 whole, good, over) refl

pub end_short : (s : Store) (h : HeapList) (change end : ℕ) → change % 4 ≡ 0 → is_heap_region s.bytes h.start end ≡ true
    → overgrows s h end ≡ false → end < 16 + size_of h.items → end_changed s h change end ≡ Err HeapBadShrink
end_short s h change end whole good clear short = rw (eq-eqb (change % 4) 0 whole, good, clear, lt-ltb end (16 + size_of h.items) short) refl

pub end_done : (s : Store) (h : HeapList) (change end : ℕ) → change % 4 ≡ 0 → MayEnd s h end → end_changed s h change end ≡ Ok (ending s h end, tt)
end_done s h change end whole may = rw (eq-eqb (change % 4) 0 whole, may.region, may.clear, may.inside) refl

-- what is looked at
pub none_probes : (s : Store) (heap change : ℕ) → find_heap heap s.heaps ≡ None → change_probes s heap change ≡ 0
unfolding change_probes
none_probes s heap change none = ap (counted_of (λ h. change_probes_of s h change)) none

pub found_probes : (s : Store) (heap change : ℕ) (h : HeapList) → find_heap heap s.heaps ≡ Some h → change_probes s heap change ≡ change_probes_of s h change
unfolding change_probes
found_probes s heap change h found = ap (counted_of (λ g. change_probes_of s g change)) found

pub area_probes : (s : Store) (h : HeapList) (change : ℕ) → has_own_size h.kind ≡ false → change_probes_of s h change ≡ 0
area_probes s h change area = rw area refl

pub odd_probes : (s : Store) (h : HeapList) (change : ℕ) → has_own_size h.kind ≡ true → change % 4 ≢ 0 → change_probes_of s h change ≡ 0
odd_probes s h change own odd = rw (own, ne_eqb (change % 4) 0 odd) refl

pub whole_probes : (s : Store) (h : HeapList) (change : ℕ) → has_own_size h.kind ≡ true → change % 4 ≡ 0
    → change_probes_of s h change ≡ end_probes s h (changed_by h.end change)
whole_probes s h change own whole = rw (own, eq-eqb (change % 4) 0 whole) refl

pub bad_probes : (s : Store) (h : HeapList) (end : ℕ) → is_heap_region s.bytes h.start end ≡ false → end_probes s h end ≡ 0
bad_probes s h end bad = ap (λ (t : Bool). cond t (growth_probes s h end) 0) bad

pub good_probes : (s : Store) (h : HeapList) (end : ℕ) → is_heap_region s.bytes h.start end ≡ true → end_probes s h end ≡ growth_probes s h end
good_probes s h end good = ap (λ (t : Bool). cond t (growth_probes s h end) 0) good

pub wide_probes : (s : Store) (h : HeapList) (change : ℕ) → has_own_size h.kind ≡ true → 16777216 < changed_by h.end change
    → change_probes_of s h change ≡ 0
wide_probes s h change own wide =
    elim (cases_Bool (change % 4 == 0)) [
      | inl whole ↦ rw (own, whole) (bad_probes s h (changed_by h.end change) (wide_region s.bytes h.start (changed_by h.end change) wide))
      | inr odd ↦ rw (own, odd) refl
    ]
