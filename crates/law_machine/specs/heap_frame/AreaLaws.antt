-- The calls on dynamic areas keep each heap that a guest made: pages that go have no byte of it.
use Rattle.std.specs.Prelude.{ℕ, ◌≡◌, ◌*◌, List, Ok}
use Rattle.os_heap_words.specs.lists.Heap.{HeapList}
use Rattle.dynamic_areas.specs.declared.area.Created.{Created}
use Rattle.dynamic_areas.specs.declared.area.Wanted.{Wanted}
use Rattle.dynamic_areas.specs.Areas.{find_area}
use Rattle.dynamic_areas.specs.Changing.{change_answer, area_table_after_remove, store_changed, store_emptied}
use Rattle.dynamic_areas.specs.Creating.{area_table_after_create, pages_for}
use Rattle.dynamic_areas.specs.Ground.{AreaStore}
use Rattle.dynamic_areas.specs.Remapped.{with_pages_at}
use Rattle.law_machine.specs.heap_frame.GuestLaws.{HasGuestHeap}
use Rattle.law_machine.specs.heap_calls.Laws.{KeepsHeap}

pub record AreaCallKeepsHeap (h : HeapList) (d e : AreaStore) : Type 0 where
  pub create : (w : Wanted) (name : List ℕ) (made : Created) →
      area_table_after_create d.area_table d.pool w name ≡ Ok (e.area_table, made)
      → e.store ≡ with_pages_at d.store made.base (4096 * pages_for w.size) → KeepsHeap h d.store e.store
  pub remove : (number : ℕ) → area_table_after_remove d.area_table d.store number ≡ Ok e.area_table
      → e.store ≡ store_emptied d.store (find_area number d.area_table.areas) → KeepsHeap h d.store e.store
  pub change : (number amount : ℕ)
      → (let bytes : ℕ = (change_answer d.area_table.areas d.store d.pool number amount).bytes in
      e.store ≡ store_changed d.store d.area_table.areas number amount bytes) → KeepsHeap h d.store e.store

abbrev pub AreaCallsKeepHeap : Type 0
AreaCallsKeepHeap = (d e : AreaStore) (h : HeapList) → HasGuestHeap d h → AreaCallKeepsHeap h d e
