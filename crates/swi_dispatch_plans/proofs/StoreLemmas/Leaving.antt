-- What calls on heaps leave, by what `os_heap` says of them, and what leaves the memory alone.
use Rattle.std.proofs.Common.{ℕ, Result, refl}
use Rattle.profile.specs.Outcome.{Gives}
use Rattle.profile.specs.ErrorNumber.{ErrorNumber}
use Rattle.os_heap.specs.AddressMap.{AddressMap}
use Rattle.os_heap.specs.Calls.{store_after_init, store_after_change, gave_back, store_after_resize}
use Rattle.os_heap.specs.Sound.{KeepsLayout, KeepsOtherRanges, KeepsRangesInOrder, KeepsRest}
use Rattle.os_heap.specs.Store.{AreClasses, IsSound, store_of}
use Rattle.os_heap.proofs.Frame.{layout-others}
use Rattle.instances.proofs.HeapCalls.{areas_begun, areas_changed, areas_freed, areas_resized, areas_written}
use Rattle.instances.proofs.Heaps.{begun_keeps, changed_keeps, freed_keeps, resized_keeps}
use Rattle.instances.proofs.RmaKeeping.{keeps_same}
use Rattle.instances.specs.flex_frame.Keeping.{KeepsFlex}
use Rattle.instances.specs.Areas.{AreaTable}
use Rattle.instances.specs.Kept.{IsAreaMap, KeepsAreaTable}
use Rattle.swi_dispatch_plans.specs.store.Leaving.{LeavesAreas, LeavesSound}

-- what moves no page and changes no record
pub leaves_written : (m n : AddressMap) → KeepsLayout m n → KeepsFlex (store_of m) (store_of n) → LeavesAreas m n
leaves_written m n kept flex = λ l area_store. record {
  area_store = areas_written m n l area_store kept.sound kept.layout;
  classes = kept.classes;
  others = layout-others m n kept.layout;
  flex = flex;
  sizes = refl;
}

-- what changes nothing
pub leaves_memory : (m : AddressMap) (l : AreaTable) → IsAreaMap m l → LeavesSound m m l l
leaves_memory m l is = record {
  area_store = is.area_store;
  classes = is.classes;
  others = refl;
  flex = keeps_same (store_of m);
  sizes = refl;
}

pub leaves_all : (m : AddressMap) → AreClasses m → LeavesAreas m m
leaves_all m classes = λ l area_store. leaves_memory m l (record { area_store = area_store; classes = classes })

-- and nothing but the areas' list
pub leaves_table : (m : AddressMap) (k l : AreaTable) → IsAreaMap m k → KeepsAreaTable k l → LeavesSound m m k l
leaves_table m k l is kept = record {
  area_store = kept.ground _ _ is.area_store;
  classes = is.classes;
  others = refl;
  flex = keeps_same (store_of m);
  sizes = kept.sizes;
}

-- what makes a heap, and what gives one another end
pub leaves_begun : (m n : AddressMap) (heap size : ℕ) (r : Result (Unit {0}) ErrorNumber) → IsSound (store_of m) → KeepsOtherRanges m n
    → Gives (store_of m) (store_after_init (store_of m) heap size) r (store_of n) → LeavesAreas m n
leaves_begun m n heap size r sound kept gives = λ l area_store. record {
  area_store = areas_begun m n l area_store kept.sound kept.others kept.mapping heap size r gives;
  classes = kept.classes;
  others = kept.others;
  flex = begun_keeps (store_of m) (store_of n) heap size r sound kept.sound gives;
  sizes = refl;
}

pub leaves_changed : (m n : AddressMap) (heap change : ℕ) (r : Result (Unit {0}) ErrorNumber) → IsSound (store_of m) → KeepsRangesInOrder m n
    → Gives (store_of m) (store_after_change (store_of m) heap change) r (store_of n) → LeavesAreas m n
leaves_changed m n heap change r sound kept gives = λ l area_store. record {
  area_store = areas_changed m n l area_store kept.sound kept.others kept.mapping heap change r gives;
  classes = kept.classes;
  others = kept.others;
  flex = changed_keeps (store_of m) (store_of n) heap change r sound kept.sound gives;
  sizes = refl;
}

-- what gives a block back, and what changes its size: heaps that lay in it may be gone
pub leaves_freed : (m n : AddressMap) (heap block : ℕ) (r : Result (Unit {0}) ErrorNumber) → IsSound (store_of m) → KeepsRest m n
    → Gives (store_of m) (gave_back (store_of m) heap block) r (store_of n) → LeavesAreas m n
leaves_freed m n heap block r sound kept gives = λ l area_store. record {
  area_store = areas_freed m n l area_store kept.sound kept.others kept.mapping heap block r gives;
  classes = kept.classes;
  others = kept.others;
  flex = freed_keeps (store_of m) (store_of n) heap block r sound kept.sound gives;
  sizes = refl;
}

pub leaves_resized : (m n : AddressMap) (heap block change : ℕ) (r : Result ℕ ErrorNumber) → IsSound (store_of m) → KeepsRest m n
    → Gives (store_of m) (store_after_resize (store_of m) heap block change) r (store_of n) → LeavesAreas m n
leaves_resized m n heap block change r sound kept gives = λ l area_store. record {
  area_store = areas_resized m n l area_store kept.sound kept.others kept.mapping heap block change r gives;
  classes = kept.classes;
  others = kept.others;
  flex = resized_keeps (store_of m) (store_of n) heap block change r sound kept.sound gives;
  sizes = refl;
}
