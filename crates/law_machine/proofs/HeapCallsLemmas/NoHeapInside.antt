-- Heaps in which no heap lies: nothing is forgotten with bytes of their blocks.
use Rattle.std.proofs.Common.{ℕ, ◌≡◌, ◌+◌, ◌-◌, ◌≤◌, ◌<◌, ◌==◌, ◌∙◌, true, false, List, [], ◌∷◌, ◌++◌, is_some, Option, None, Some, refl, ap, subst, inl, inr, arith}
use Rattle.std.proofs.lemmas.Bool.{both_ways, cases_Bool, cases_lt, false_from_ne_true, le-leb, le-ltb, lt-ltb, or_from, or_left, or_parts, or_right}
use Rattle.std.specs.List.{list_any}
use Rattle.address_map.specs.Bytes.{Bytes, in_range}
use Rattle.os_heap_words.specs.lists.Heap.{HeapList}
use Rattle.os_heap.proofs.RangeTests.{clear_unless}
use Rattle.os_heap.proofs.Forgetting.{StartsIn, so_starts, starts_so}
use Rattle.os_heap.proofs.LostHeaps.{none_lowest, none_without, same_heaps}
use Rattle.os_heap.specs.Calls.{OfHeap, with_end}
use Rattle.os_heap.specs.Forgetting.{store_after_forget, holds_heap, lowest_lost, starts_in}
use Rattle.os_heap.specs.Ranges.{is_in_way}
use Rattle.os_heap.specs.Store.{AreHeapsIn, Store, find_heap}
use Rattle.law_machine.specs.heap_calls.Laws.{HoldsNoHeap, IsLeftWhole, IsNotForgotten}

-- nor does one start in a part of a range where none does
pub none_in_part : (at len from more : ℕ) (hs : List HeapList) → ((a : ℕ) → from ≤ a → a < from + more → (at ≤ a) × (a < at + len))
    → holds_heap hs at len ≡ false → holds_heap hs from more ≡ false
none_in_part at len from more [] within none = refl
none_in_part at len from more (g ∷ hs) within none =
    let parts = or_parts (starts_in at len g) (holds_heap hs at len) none in
    or_from (starts_in from more g) (holds_heap hs from more)
    (false_from_ne_true (starts_in from more g) (λ is.
    let starts : StartsIn from more g = starts_so from more g is in
    let there = within g.start starts.low starts.high in
    both_ways (starts_in at len g) parts.0 (so_starts at len g (record { guest = starts.guest; low = there.0; high = there.1 }))))
    (none_in_part at len from more hs within parts.1)

-- what goes with bytes of a block in which no heap lies
pub forgot_unheld : (s : Store) (block total from : ℕ) → 4 ≤ block → 4 ≤ total → block ≤ from → holds_heap s.heaps block (total - 4) ≡ false
    → store_after_forget s block total from ≡ s
forgot_unheld s block total from above some past none =
    let low : lowest_lost block (total - 4) from s.heaps ≡ from = none_lowest block (total - 4) from s.heaps none in
    let rest : holds_heap s.heaps from (block - 4 + total - from) ≡ false =
    none_in_part block (total - 4) from (block - 4 + total - from) s.heaps
    (λ a least most. (omega (arith, past, least), omega (arith, least, most, above, some))) none in
    same_heaps s _ (rw low (none_without from (block - 4 + total - from) s.heaps rest))

-- the heaps start where they did after one of them got another end
pub held_ended : (start at len end : ℕ) (hs : List HeapList) → holds_heap (with_end start end hs) at len ≡ holds_heap hs at len
held_ended start at len end [] = refl
held_ended start at len end (g ∷ hs) = elim (cases_Bool (g.start == start)) [
  | inl here ↦ rw (here, held_ended start at len end hs) refl
  | inr other ↦ rw (other, held_ended start at len end hs) refl
]

-- one that starts there and is found
pub found_holds : (start at len : ℕ) (hs : List HeapList) (g : HeapList) → find_heap start hs ≡ Some g → starts_in at len g ≡ true → holds_heap hs at len ≡ true
found_holds start at len [] g found is = absurd (let none : None ≡ Some g = found in cc)
found_holds start at len (k ∷ hs) g found is = elim (cases_Bool (k.start == start)) [
  | inl here ↦
      let found' = rw here at found in
      let same : k ≡ g = cc in
      or_left (starts_in at len k) (holds_heap hs at len) (ap (λ (x : HeapList). starts_in at len x) same ∙ is)
  | inr other ↦ or_right (starts_in at len k) (holds_heap hs at len) (found_holds start at len hs g (rw other at found) is)
]

-- and one that is made there
pub more_holds : (at len : ℕ) (hs : List HeapList) (g : HeapList) → starts_in at len g ≡ true → holds_heap (hs ++ g ∷ []) at len ≡ true
more_holds at len [] g is = or_left (starts_in at len g) false is
more_holds at len (k ∷ hs) g is = or_right (starts_in at len k) (holds_heap (hs ++ g ∷ []) at len) (more_holds at len hs g is)

-- a range that grows, where no heap is in its way
pub none_grown : (b : Bytes) (start old end : ℕ) (hs : List HeapList) → AreHeapsIn b hs
    → (old < end → list_any (is_in_way start end (start + old) (end - old)) hs ≡ false) → holds_heap hs (start + 16) (old - 16) ≡ false → holds_heap hs (start + 16) (end - 16) ≡ false
none_grown b start old end [] parts free none = refl
none_grown b start old end (g ∷ hs) parts free none =
    let each = λ (more : old < end). or_parts (is_in_way start end (start + old) (end - old) g) (list_any (is_in_way start end (start + old) (end - old)) hs) (free more) in
    let none' = or_parts (starts_in (start + 16) (old - 16) g) (holds_heap hs (start + 16) (old - 16)) none in
    or_from (starts_in (start + 16) (end - 16) g) (holds_heap hs (start + 16) (end - 16))
    (false_from_ne_true (starts_in (start + 16) (end - 16) g) (λ is.
    let starts : StartsIn (start + 16) (end - 16) g = starts_so (start + 16) (end - 16) g is in
    elim (cases_lt g.start (start + old)) [
      | inl before ↦ both_ways (starts_in (start + 16) (old - 16) g) none'.0
          (so_starts (start + 16) (old - 16) g (record { guest = starts.guest; low = starts.low; high = omega (arith, before, starts.low) }))
      | inr behind ↦
          let apart = rw (le-ltb g.start start (omega (arith, starts.low))) at (each (omega (arith, behind, starts.low, starts.high))).0 in
          both_ways (in_range g.start g.end g.start) (clear_unless (start + old) (end - old) g.start g.end apart g.start
          (rw (le-leb (start + old) g.start behind, lt-ltb g.start (start + old + (end - old)) (omega (arith, behind, starts.low, starts.high))) refl))
          (rw (le-leb g.start g.start (omega arith), lt-ltb g.start (g.start + g.end) (omega (arith, parts.0.inside))) refl)
    ]))
    (none_grown b start old end hs parts.1.1 (λ more. (each more).1) none'.1)

-- a heap that is left whole is recorded, and where it is the one that was, no heap lies in it
pub whole_recorded : (t : Store) (start : ℕ) → IsLeftWhole t start → IsNotForgotten t start
whole_recorded t start is = of (find_heap start t.heaps) is where
  of : (o : Option HeapList) → OfHeap (HoldsNoHeap t) o → is_some o ≡ true
  of None is = absurd is
  of (Some h) is = refl

pub whole_alone : (t : Store) (h : HeapList) → find_heap h.start t.heaps ≡ Some h → IsLeftWhole t h.start → HoldsNoHeap t h
whole_alone t h found is = subst (OfHeap (HoldsNoHeap t)) found is
