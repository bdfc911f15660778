-- The areas of a machine say how many pages its memory has (this project's own).
use Rattle.std.specs.Prelude.{◌≡◌}
use Rattle.os_heap.specs.AddressMap.{AddressMap}
use Rattle.os_heap.specs.Memory.{free_pages, page_total}
use Rattle.dynamic_areas.specs.Areas.{AreaTable}
use Rattle.dynamic_areas.specs.Ground.{AreAreas}
use Rattle.os_heap.specs.Store.{store_of}

-- where areas stand on a memory, it has as many pages as the machine that they are of
abbrev pub AreasCountPages : Type 0
AreasCountPages = (m : AddressMap) (l : AreaTable) → AreAreas (store_of m) (free_pages m) l →
    page_total m ≡ l.sizes.pages
