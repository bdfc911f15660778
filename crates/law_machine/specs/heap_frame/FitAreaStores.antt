-- What holds of the module area in the midst of a step, of an area store: memory with its pages and its
-- areas.
use Rattle.std.specs.Prelude.{◌≡◌, ◌≤◌, ◌*◌, Some}
use Rattle.dynamic_areas.specs.declared.area.Area.{Area}
use Rattle.dynamic_areas.specs.Areas.{find_area}
use Rattle.dynamic_areas.specs.Ground.{AreaStore}
use Rattle.law_machine.specs.heap_frame.Fits.{IsFitStore, KeepsOutside}

-- the module area's heap ends where area 1, the module area, has its last page, and that area can't
-- have more than its 4 MB
pub record IsFitAreaStore (e : AreaStore) : Type 0 where
  pub area : Area
  pub found : find_area 1 e.area_table.areas ≡ Some area
  pub most : area.maximum ≤ 0x400000
  pub store : IsFitStore (4096 * area.pages) e.store

-- a step within a call that keeps this, and all that lies outside the module area, with the heaps
-- in its blocks
pub record AreaStoreStaysFit (d e : AreaStore) : Type 0 where
  pub fit : IsFitAreaStore e
  pub outside : KeepsOutside d.store e.store
