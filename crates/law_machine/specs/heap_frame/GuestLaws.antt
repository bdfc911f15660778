-- A heap that a guest made has no byte in the module area, nor in the system pages, or it lies in a
-- live block of the module area. What changes there alone keeps it, unless it lies there and is
-- forgotten.
use Rattle.std.specs.Prelude.{ℕ, ◌≡◌, ◌⊎◌, true, false, Some}
use Rattle.address_map.specs.Bytes.{in_range}
use Rattle.os_heap_words.specs.lists.Heap.{HeapList}
use Rattle.os_heap.specs.Calls.{has_own_size}
use Rattle.os_heap.specs.Store.{Store, find_heap}
use Rattle.dynamic_areas.specs.Ground.{AreaStore, IsAreaStore, IsRecorded, system_pages_range}
use Rattle.law_machine.specs.heap_frame.FitAreaStores.{IsFitAreaStore}
use Rattle.law_machine.specs.heap_frame.Fits.{KeepsOutside, LiesInArea, is_module_byte}
use Rattle.law_machine.specs.heap_calls.Laws.{IsNotForgotten, KeepsHeap}

-- a heap that a guest made, between calls
pub record HasGuestHeap (e : AreaStore) (h : HeapList) : Type 0 where
  pub area_store : IsAreaStore e
  pub system : IsRecorded system_pages_range e.store.others
  pub found : find_heap h.start e.store.heaps ≡ Some h
  pub own : has_own_size h.kind ≡ true

-- What holds of an area store between calls says enough of the module area for the midst of a step.
abbrev pub AreaStoresAreFit : Type 0
AreaStoresAreFit = (e : AreaStore) → IsAreaStore e → IsFitAreaStore e

-- a heap that shares no byte with the module area and the system pages
abbrev pub LiesOutside : HeapList → Type 0
LiesOutside h = (a : ℕ) → in_range h.start h.end a ≡ true → is_module_byte a ≡ false

abbrev pub GuestHeapsLieOutside : Type 0
GuestHeapsLieOutside =
    (e : AreaStore) (h : HeapList) → HasGuestHeap e h → LiesOutside h ⊎ LiesInArea e.store h

abbrev pub OutsideKeepsHeap : Type 0
OutsideKeepsHeap =
    (e : AreaStore) (t : Store) (h : HeapList) → HasGuestHeap e h → KeepsOutside e.store t
    → (LiesInArea e.store h → IsNotForgotten t h.start) → KeepsHeap h e.store t
