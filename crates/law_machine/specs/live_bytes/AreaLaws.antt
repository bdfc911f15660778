-- Blocks of the module area over a change of size there, and over the calls that change areas (RISC
-- OS 3 Programmer's Reference Manual, "OS_Module", reason 13; "OS_ChangeDynamicArea").
use Rattle.std.specs.Prelude.{ℕ, ◌≡◌, ◌-◌, ◌*◌, true, List, Some, Ok}
use Rattle.address_map.specs.Bytes.{in_range}
use Rattle.os_heap.specs.Store.{Store}
use Rattle.dynamic_areas.specs.declared.area.Created.{Created}
use Rattle.dynamic_areas.specs.declared.area.Wanted.{Wanted}
use Rattle.dynamic_areas.specs.Areas.{find_area}
use Rattle.dynamic_areas.specs.Changing.{change_answer, area_table_after_remove, store_changed, store_emptied}
use Rattle.dynamic_areas.specs.Creating.{area_table_after_create, pages_for}
use Rattle.dynamic_areas.specs.Ground.{AreaStore, IsAreaStore}
use Rattle.dynamic_areas.specs.Remapped.{with_pages_at}
use Rattle.rma.specs.Calls.{rma_extended}
use Rattle.law_machine.specs.heap_frame.BlockLaws.{block_total}
use Rattle.law_machine.specs.heap_frame.FitAreaStores.{IsFitAreaStore}

-- A block of the module area that is live in both stores holds the same in both, as far as it holds
-- it in both.
abbrev pub KeepsBoth : Store → Store → Type 0
KeepsBoth s t =
    (block total new_total a : ℕ) → block_total s block ≡ Some total → block_total t block ≡ Some new_total
    → in_range block (total - 4) a ≡ true → in_range block (new_total - 4) a ≡ true →
    t.bytes.at a ≡ s.bytes.at a

-- whatever the area grows by, and wherever the block that changes gets its bytes
abbrev pub ExtendsKeepBlocks : Type 0
ExtendsKeepBlocks =
    (d e : AreaStore) (block change new : ℕ) → IsFitAreaStore d → rma_extended d block change ≡ Ok (e, new)
    → KeepsBoth d.store e.store

-- What each call on a dynamic area leaves that is done, one on the module area too, has a property
-- of stores.
pub record AreaCallHas (d : AreaStore) (P : Store → Type 0) (e : AreaStore) : Type 0 where
  pub create : (w : Wanted) (name : List ℕ) (made : Created) →
      area_table_after_create d.area_table d.pool w name ≡ Ok (e.area_table, made)
      → e.store ≡ with_pages_at d.store made.base (4096 * pages_for w.size) → P e.store
  pub remove : (number : ℕ) → area_table_after_remove d.area_table d.store number ≡ Ok e.area_table
      → e.store ≡ store_emptied d.store (find_area number d.area_table.areas) → P e.store
  pub change : (number amount : ℕ)
      → (let bytes : ℕ = (change_answer d.area_table.areas d.store d.pool number amount).bytes in
      e.store ≡ store_changed d.store d.area_table.areas number amount bytes) → P e.store

abbrev pub AreaCallsKeepBoth : Type 0
AreaCallsKeepBoth = (d e : AreaStore) → IsAreaStore d → AreaCallHas d (KeepsBoth d.store) e
