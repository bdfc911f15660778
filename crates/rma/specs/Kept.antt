-- What a call on the module area keeps of the map and of the areas on it.
use Rattle.std.specs.Prelude.{ℕ, ◌≡◌, ◌-◌, List}
use Rattle.std.specs.List.{filter}
use Rattle.dynamic_areas.specs.Memory.{layout, mapping, regions, StaysInPlace}
use Rattle.dynamic_areas.specs.AddressMap.{AddressMap}
use Rattle.dynamic_areas.specs.Region.{Region}
use Rattle.dynamic_areas.specs.Areas.{AreaTable}
use Rattle.dynamic_areas.specs.Ground.{area_store_of, IsAreaStore}
use Rattle.dynamic_areas.specs.Order.{stays, KeepsOrder, LosesInOrder}
use Rattle.dynamic_areas.specs.Store.{store_of, AreClasses, IsSound}
use Rattle.rma.specs.flex_frame.Keeping.{KeepsFlex, RangeHasNoAnchor}
use Rattle.rma.specs.Places.{KeepsPlaces}

-- The areas stand on the store still, and the words that its heaps spell are marked. What was mapped
-- lies where it lay, the flex store is kept, and the machine's sizes stay.
pub record KeepsAreas (old new : AddressMap) (before after : AreaTable) : Type 0 where
  pub area_store : IsAreaStore (area_store_of new after)
  pub classes : AreClasses new
  pub places : KeepsPlaces old new
  pub flex : KeepsFlex (store_of old) (store_of new)
  pub sizes : after.sizes ≡ before.sizes

-- The same, where a block is claimed or the area grows: no record comes or goes.
pub record KeepsRecords (old new : AddressMap) (before after : AreaTable) : Type 0 where
  pub area_store : IsAreaStore (area_store_of new after)
  pub classes : AreClasses new
  pub others : (store_of new).others ≡ (store_of old).others
  pub order : KeepsOrder old new
  pub stays : StaysInPlace old new
  pub places : KeepsPlaces old new
  pub flex : KeepsFlex (store_of old) (store_of new)
  pub sizes : after.sizes ≡ before.sizes

-- The same, where a block gets another size: heaps that lie in what goes of it are forgotten, and
-- no other record comes or goes.
pub record LosesInnerHeaps (old new : AddressMap) (before after : AreaTable) : Type 0 where
  pub area_store : IsAreaStore (area_store_of new after)
  pub classes : AreClasses new
  pub others : (store_of new).others ≡ (store_of old).others
  pub records : LosesInOrder old new
  pub stays : StaysInPlace old new
  pub places : KeepsPlaces old new
  pub flex : KeepsFlex (store_of old) (store_of new)
  pub sizes : after.sizes ≡ before.sizes

-- The store is sound still, each table of areas that stood on it does so, and the words that its
-- heaps spell are marked if they were. Each address is mapped as it was.
pub record KeepsAreaStores (old new : AddressMap) : Type 0 where
  pub sound : IsSound (store_of new)
  pub area_store : (l : AreaTable) → IsAreaStore (area_store_of old l) → IsAreaStore (area_store_of new l)
  pub classes : AreClasses old → AreClasses new
  pub mapping : mapping new ≡ mapping old

-- The same, and the flex store is kept.
pub record KeepsFlexAreas (old new : AddressMap) : Type 0 where
  pub sound : IsSound (store_of new)
  pub area_store : (l : AreaTable) → IsAreaStore (area_store_of old l) → IsAreaStore (area_store_of new l)
  pub classes : AreClasses old → AreClasses new
  pub mapping : mapping new ≡ mapping old
  pub flex : KeepsFlex (store_of old) (store_of new)

-- The same, where bytes are written that a block holds, `len` from `block` on.
pub record KeepsBlock (old new : AddressMap) (block len : ℕ) : Type 0 where
  pub sound : IsSound (store_of new)
  pub area_store : (l : AreaTable) → IsAreaStore (area_store_of old l) → IsAreaStore (area_store_of new l)
  pub classes : AreClasses old → AreClasses new
  pub layout : layout new ≡ layout old
  pub flex : KeepsFlex (store_of old) (store_of new)
  pub unanchored : RangeHasNoAnchor (store_of new) block len

-- The same, where a block is given back: heaps that lie in it are forgotten. Of the recorded ranges
-- `ranges` are left but for those heaps, `beside` of them beside heaps.
pub record FreesRoom (old new : AddressMap) (ranges beside : List Region) : Type 0 where
  pub sound : IsSound (store_of new)
  pub area_store : (l : AreaTable) → IsAreaStore (area_store_of old l) → IsAreaStore (area_store_of new l)
  pub classes : AreClasses new
  pub others : (store_of new).others ≡ beside
  pub mapping : mapping new ≡ mapping old
  pub records : regions new ≡ filter (stays (store_of new).heaps) ranges
  pub flex : KeepsFlex (store_of old) (store_of new)

-- The store is sound still, and the words that its heaps spell are marked, where blocks of one
-- slide. Each address is mapped as it was, and the flex store is kept.
pub record KeepsMapped (old new : AddressMap) : Type 0 where
  pub sound : IsSound (store_of new)
  pub classes : AreClasses new
  pub mapping : mapping new ≡ mapping old
  pub flex : KeepsFlex (store_of old) (store_of new)
