-- A slide of the module area's heap stays within the module area, whichever of its blocks move,
-- where no heap lies in one of these.
use Rattle.profile.specs.MemoryMap.{module_area_start}
use Rattle.std.specs.Prelude.{ℕ, ◌≡◌, List, Some}
use Rattle.os_heap_words.specs.lists.Heap.{HeapList}
use Rattle.os_heap.specs.Store.{Store, find_heap}
use Rattle.rma.specs.heap_slide.Slide.{HoldNoHeap, with_slid}
use Rattle.law_machine.specs.heap_frame.Fits.{IsFitStore, StaysFit}

abbrev pub SlidesStayFit : Type 0
SlidesStayFit =
    (limit : ℕ) (s : Store) (h : HeapList) (movable : List ℕ) → IsFitStore limit s
    → find_heap module_area_start s.heaps ≡ Some h → HoldNoHeap s.heaps h movable →
    StaysFit limit s (with_slid s h movable)
