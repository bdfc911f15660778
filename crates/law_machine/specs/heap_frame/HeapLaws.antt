-- The heap calls on the module area stay within it, whatever else is known of the store.
use Rattle.profile.specs.MemoryMap.{module_area_start}
use Rattle.std.specs.Prelude.{ℕ, ◌≡◌, ◌≤◌, true, Some, Ok}
use Rattle.address_map.specs.Items.{is_total}
use Rattle.os_heap_words.specs.lists.Heap.{HeapList}
use Rattle.os_heap.specs.Calls.{gave_back, store_after_get, store_after_move, store_after_resize}
use Rattle.os_heap.specs.Store.{Store, find_heap}
use Rattle.law_machine.specs.heap_frame.Fits.{IsFitStore, StaysFit}

-- A move that a resize makes gives the block no fewer bytes.
pub record HeapCallStaysFit (limit : ℕ) (s t : Store) : Type 0 where
  pub get : (size block : ℕ) → store_after_get s module_area_start size ≡ Ok (t, block) → StaysFit limit s t
  pub free : (block : ℕ) → gave_back s module_area_start block ≡ Ok (t, tt) → StaysFit limit s t
  pub resize : (block change new : ℕ) → store_after_resize s module_area_start block change ≡ Ok (t, new) →
      StaysFit limit s t
  pub move : (h : HeapList) (block old new answer : ℕ) → find_heap module_area_start s.heaps ≡ Some h →
      is_total new ≡ true
      → old ≤ new → store_after_move s h block old new ≡ Ok (t, answer) → StaysFit limit s t

abbrev pub HeapCallsStayFit : Type 0
HeapCallsStayFit = (limit : ℕ) (s t : Store) → IsFitStore limit s → HeapCallStaysFit limit s t
