-- Which bytes of the whole of memory a call on dynamic areas writes: the word that shows the end of
-- the module area's heap, where that area changes. Pages that go are mapped no more, and count as 0
-- then; pages that come are 0, as they counted before (RISC OS 3 Programmer's Reference Manual,
-- "OS_ChangeDynamicArea", and its supplement, "OS_DynamicArea").
use Rattle.profile.specs.MemoryMap.{module_area_start}
use Rattle.std.specs.Prelude.{ℕ, ◌≡◌, ◌+◌, ◌*◌, ◌⊎◌, true, false, List, Ok}
use Rattle.address_map.specs.Bytes.{in_range}
use Rattle.dynamic_areas.specs.declared.area.Created.{Created}
use Rattle.dynamic_areas.specs.declared.area.Wanted.{Wanted}
use Rattle.dynamic_areas.specs.Areas.{find_area}
use Rattle.dynamic_areas.specs.Changing.{change_answer, area_table_after_remove, store_changed, store_emptied}
use Rattle.dynamic_areas.specs.Creating.{area_table_after_create, pages_for}
use Rattle.dynamic_areas.specs.Ground.{AreaStore, IsAreaStore}
use Rattle.dynamic_areas.specs.Remapped.{with_pages_at}
use Rattle.instances.specs.tidying.Laws.{AreBytes}
use Rattle.os_heap.specs.Store.{Store}

-- the last word of the module area's descriptor
abbrev pub IsAreaEndByte : ℕ → Type 0
IsAreaEndByte a = in_range (module_area_start + 12) 4 a ≡ true

-- a byte of a page that went
abbrev pub IsUnmapped : Store → ℕ → Type 0
IsUnmapped t a = t.bytes.mapped a ≡ false

pub record PageCallWrites (d e : AreaStore) (a : ℕ) : Type 0 where
  pub create : (w : Wanted) (name : List ℕ) (made : Created) →
      area_table_after_create d.area_table d.pool w name ≡ Ok (e.area_table, made)
      → e.store ≡ with_pages_at d.store made.base (4096 * pages_for w.size)
      → e.store.bytes.at a ≡ d.store.bytes.at a
  pub remove : (number : ℕ) → area_table_after_remove d.area_table d.store number ≡ Ok e.area_table
      → e.store ≡ store_emptied d.store (find_area number d.area_table.areas)
      → (e.store.bytes.at a ≡ d.store.bytes.at a) ⊎ IsUnmapped e.store a
  pub change : (number amount : ℕ)
      → (let bytes : ℕ = (change_answer d.area_table.areas d.store d.pool number amount).bytes in
      e.store ≡ store_changed d.store d.area_table.areas number amount bytes)
      → (e.store.bytes.at a ≡ d.store.bytes.at a)
      ⊎ (IsUnmapped e.store a ⊎ ((number ≡ 1) × IsAreaEndByte a))

abbrev pub PageCallsKeepOthers : Type 0
PageCallsKeepOthers = (d e : AreaStore) (a : ℕ) → IsAreaStore d → AreBytes d.store.bytes.at → PageCallWrites
    d e a
