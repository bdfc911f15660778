-- What is in the way of a heap that grows: what its added bytes may not meet is what the range of a
-- new heap may not meet, and a heap that lies in a block must lie in that block still (RISC OS 3
-- Programmer's Reference Manual, "OS_Heap", reasons 0 and 5; the ranges, and that a heap may lie in
-- a block, are this project's own).
use Rattle.std.specs.Prelude.{ℕ, ◌≡◌, ◌≤◌, ◌<◌, ◌↔◌, ◌+◌, ◌-◌, ◌%◌, true, false, Some, Err}
use Rattle.std.specs.List.{list_any}
use Rattle.profile.specs.ErrorNumber.TheVariants.{HeapOverlaps}
use Rattle.profile.specs.declared.reason.HeapReason.TheVariants as reason
use Rattle.address_map.specs.Bytes.{shares_address}
use Rattle.address_map.specs.Records.{anchor_among}
use Rattle.os_heap_words.specs.lists.Heap.{HeapList}
use Rattle.os_heap_words.specs.lists.Lists.{changed_by}
use Rattle.os_heap.specs.Calls.{has_own_size}
use Rattle.os_heap.specs.Nesting.{IsWithin}
use Rattle.os_heap.specs.Ranges.{is_heap_region, meets_any}
use Rattle.os_heap.specs.Store.{Store, IsSound, find_heap}
use Rattle.law_machine.specs.heap_calls.Alone.{growth_to}
use Rattle.law_machine.specs.heap_calls.Laws.{LiesInBlock}
use Rattle.law_machine.specs.heap_calls.Turns.{call_on}

-- A heap may grow up to another end, counted from its start. The block in which it lies of each
-- heap round it holds its new range too; what it grows by shares no byte with any other heap and no
-- other recorded range, and holds no anchor.
pub record MayGrow (s : Store) (h : HeapList) (end : ℕ) : Type 0 where
  pub round : (k : HeapList) (w : IsWithin k h) → find_heap k.start s.heaps ≡ Some k →
      h.start + end + 4 ≤ w.block + w.total
  pub heaps : (k : HeapList) → find_heap k.start s.heaps ≡ Some k → (IsWithin k h → ⊥) →
      shares_address (h.start + h.end) (end - h.end) k.start k.end ≡ false
  pub others : list_any (λ r. shares_address (h.start + h.end) (end - h.end) r.at r.len) s.others ≡ false
  pub anchors : anchor_among s.anchor (h.start + h.end) (end - h.end) ≡ false

-- Whether a heap may not grow is tested so. For a heap that lies in no
-- other it is whether the added bytes meet a heap, another recorded range or an anchor, as those of
-- a heap that is made.
abbrev pub GrowthsAreJudged : Type 0
GrowthsAreJudged =
    (s : Store) (h : HeapList) (end : ℕ) → IsSound s → find_heap h.start s.heaps ≡ Some h → h.end < end
    → ((growth_to s h end).meets ≡ false) ↔ MayGrow s h end

abbrev pub OuterGrowthsMeet : Type 0
OuterGrowthsMeet =
    (s : Store) (h : HeapList) (end : ℕ) → IsSound s → find_heap h.start s.heaps ≡ Some h →
    (LiesInBlock s h → ⊥) → h.end < end
    → (growth_to s h end).meets ≡ meets_any (h.start + h.end) (end - h.end) s

-- So a growth up to an end that a heap may have is refused for what is in its way just where the
-- heap may not grow so.
abbrev pub GrowthsAreRefused : Type 0
GrowthsAreRefused =
    (s : Store) (h : HeapList) (block change : ℕ)
    → (let end : ℕ = changed_by h.end change in
    IsSound s → find_heap h.start s.heaps ≡ Some h → has_own_size h.kind ≡ true → change % 4 ≡ 0 →
    is_heap_region s.bytes h.start end ≡ true
    → h.end < end → (call_on s h.start reason.ChangeSize block change ≡ Err HeapOverlaps) ↔
    (MayGrow s h end → ⊥))
