-- A map on whose memory dynamic areas stand, and what a call on areas keeps of it.
use Rattle.profile.specs.MemoryMap.{module_area_start}
use Rattle.std.specs.Prelude.{ℕ, ◌≡◌, true, is_some}
use Rattle.os_heap.specs.Memory.{free_pages, regions, StaysInPlace}
use Rattle.os_heap.specs.AddressMap.{AddressMap}
use Rattle.os_heap.specs.Order.{KeepsOrder}
use Rattle.os_heap.specs.Store.{Store, AreClasses, IsSound, find_heap, store_of}
use Rattle.dynamic_areas.specs.Areas.{AreaTable}
use Rattle.dynamic_areas.specs.Ground.{AreAreas, IsAreaStore, IsGround, area_store_of}
use Rattle.dynamic_areas.specs.Rooms.{IsAreaTable}

-- the areas stand on the store, and the words that its heaps spell are marked
pub record IsAreaMap (m : AddressMap) (l : AreaTable) : Type 0 where
  pub area_store : IsAreaStore (area_store_of m l)
  pub classes : AreClasses m

-- the same, wherever the module area's heap ends
pub record IsGroundMap (m : AddressMap) (l : AreaTable) : Type 0 where
  pub ground : IsGround (store_of m) (free_pages m) l
  pub classes : AreClasses m

-- It is so still, where an area gets another size: no record comes or goes, and each stands where
-- it stood; what is mapped before and after lies where it lay, and the machine's sizes stay.
pub record KeepsAreaOrder (old new : AddressMap) (before after : AreaTable) : Type 0 where
  pub area_store : IsAreaStore (area_store_of new after)
  pub classes : AreClasses new
  pub order : KeepsOrder old new
  pub stays : StaysInPlace old new
  pub sizes : after.sizes ≡ before.sizes

-- It is so still, where an area comes or goes: no recorded range is another one.
pub record KeepsRegions (old new : AddressMap) (before after : AreaTable) : Type 0 where
  pub area_store : IsAreaStore (area_store_of new after)
  pub classes : AreClasses new
  pub regions : regions new ≡ regions old
  pub stays : StaysInPlace old new
  pub sizes : after.sizes ≡ before.sizes

-- the same of pages that come or go, wherever the module area's heap ends
pub record KeepsGround (old new : AddressMap) (before after : AreaTable) : Type 0 where
  pub ground : IsGround (store_of new) (free_pages new) after
  pub classes : AreClasses new
  pub regions : regions new ≡ regions old
  pub stays : StaysInPlace old new
  pub sizes : after.sizes ≡ before.sizes

-- The areas are a table still, which stands on each store on which it stood, and the machine's
-- sizes stay.
pub record KeepsAreaTable (old new : AreaTable) : Type 0 where
  pub sizes : new.sizes ≡ old.sizes
  pub table : IsAreaTable new.areas
  pub ground : (s : Store) (free : ℕ) → AreAreas s free old → AreAreas s free new

-- a sound store that has the module area's heap
pub record HasAreaHeap (s : Store) : Type 0 where
  pub sound : IsSound s
  pub heap : is_some (find_heap module_area_start s.heaps) ≡ true
