-- What calls on heaps and areas leave of all else.
use Rattle.std.specs.Prelude.{◌≡◌}
use Rattle.os_heap.specs.AddressMap.{AddressMap}
use Rattle.os_heap.specs.Store.{AreClasses, store_of}
use Rattle.instances.specs.Areas.{AreaTable}
use Rattle.instances.specs.Ground.{IsAreaStore, area_store_of}
use Rattle.instances.specs.flex_frame.Keeping.{KeepsFlex}

-- Memory and areas after a call: the areas stand on the memory, the marked words are those of the
-- heaps' lists, the other recorded ranges, the flex store and the machine's sizes are as before.
pub record LeavesSound (m n : AddressMap) (k l : AreaTable) : Type 0 where
  pub area_store : IsAreaStore (area_store_of n l)
  pub classes : AreClasses n
  pub others : (store_of n).others ≡ (store_of m).others
  pub flex : KeepsFlex (store_of m) (store_of n)
  pub sizes : l.sizes ≡ k.sizes

-- the same of a call that leaves the areas alone, whatever they are
abbrev pub LeavesAreas : AddressMap → AddressMap → Type 0
LeavesAreas m n = (l : AreaTable) → IsAreaStore (area_store_of m l) → LeavesSound m n l l
