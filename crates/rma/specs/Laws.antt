-- Laws of the module area, said in other words than its calls (RISC OS 3 Programmer's
-- Reference Manual, "OS_Module", reasons 6 and 7).
use Rattle.dynamic_areas.specs.MemoryMap.{module_area_start}
use Rattle.std.specs.Prelude.{ℕ, ◌≡◌, false, Result, Ok, Err}
use Rattle.dynamic_areas.specs.ErrorNumber.{ErrorNumber}
use Rattle.dynamic_areas.specs.Calls.{store_after_get, items_of}
use Rattle.dynamic_areas.specs.Store.{has_image}
use Rattle.dynamic_areas.specs.Ground.{AreaStore, IsAreaStore}
use Rattle.rma.specs.Calls.{is_full, rma_claimed, rma_freed}

-- the blocks and the free room are those of an area store, and the area has its size
abbrev pub IsUndone : AreaStore → Result (AreaStore × Unit {0}) ErrorNumber → Type 0
IsUndone e (Err f) = ⊥
IsUndone e (Ok r) = (items_of r.0.store module_area_start ≡ items_of e.store module_area_start) ×
    ((r.0.pool ≡ e.pool) × (r.0.area_table ≡ e.area_table))

-- A block that is claimed without growth, and given back at once, leaves blocks, free room and area
-- as they were.
abbrev pub FreeUndoesClaim : Type 0
FreeUndoesClaim = (e g : AreaStore) (size block : ℕ) → IsAreaStore e →
    is_full (store_after_get e.store module_area_start size) ≡ false → rma_claimed e size ≡ Ok (g, block)
    → has_image block e.store.others ≡ false → IsUndone e (rma_freed g block)
