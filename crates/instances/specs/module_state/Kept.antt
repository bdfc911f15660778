-- What module calls ask of a map, and what they keep of it: the module state that it stands for is
-- sound, and the words that it spells are marked.
use Rattle.std.specs.Prelude.{◌≡◌, List, []}
use Rattle.rma.specs.Memory.{layout, mapping, regions}
use Rattle.rma.specs.AddressMap.{AddressMap}
use Rattle.rma.specs.Region.{Region}
use Rattle.rma.specs.Areas.{AreaTable}
use Rattle.rma.specs.Ground.{IsAreaStore, area_store_of}
use Rattle.rma.specs.Order.{LosesHeaps}
use Rattle.rma.specs.Store.{AreClasses, store_of}
use Rattle.rma.specs.flex_frame.Keeping.{KeepsFlex}
use Rattle.instances_table.specs.declared.parts.Image.{Image}
use Rattle.instances_table.specs.Modules.{Module}
use Rattle.instances.specs.module_state.Records.{LosesRecords}
use Rattle.instances.specs.module_state.Sound.{HasSystemPages, IsModuleState}
use Rattle.instances.specs.module_state.ModuleState.{module_state_of}

-- its system pages are mapped and recorded, and the words that it spells are marked
pub record IsSystemMap (m : AddressMap) : Type 0 where
  pub system : HasSystemPages m
  pub classes : AreClasses m

-- It stands, with areas and modules, for a sound module state between module calls.
pub record IsModuleMap (m : AddressMap) (l : AreaTable) (modules : List Module) : Type 0 where
  pub sound : IsModuleState (module_state_of m l modules) []
  pub classes : AreClasses m

-- A module state that was sound is so still, whatever modules it has; or where the modules are
-- others then.
abbrev pub StaysSound : AddressMap → AddressMap → Type 0
StaysSound old new = (l : AreaTable) (modules : List Module) (pending : List Image)
    → IsModuleState (module_state_of old l modules) pending
    → IsModuleState (module_state_of new l modules) pending

abbrev pub StaysSoundWith : AddressMap → AddressMap → List Module → List Module → Type 0
StaysSoundWith old new before after = (l : AreaTable) (pending : List Image)
    → IsModuleState (module_state_of old l before) pending
    → IsModuleState (module_state_of new l after) pending

-- What is kept where only bytes of the system pages are written: no record is another one. What
-- becomes of a sound module state differs from call to call, as in the records below.
pub record KeepsPages (old new : AddressMap) (Sound : Type 0) : Type 0 where
  pub sound : Sound
  pub areas : (l : AreaTable) → IsAreaStore (area_store_of old l) → IsAreaStore (area_store_of new l)
  pub pages : HasSystemPages new
  pub classes : AreClasses old → AreClasses new
  pub layout : layout new ≡ layout old
  pub flex : KeepsFlex (store_of old) (store_of new)

-- What is kept where blocks are given back and images dropped, with the heaps in them: no record
-- comes, and each that is left stands where it stood.
pub record DropsRecords (old new : AddressMap) (Sound : Type 0) : Type 0 where
  pub sound : Sound
  pub pages : HasSystemPages new
  pub classes : AreClasses new
  pub mapping : mapping new ≡ mapping old
  pub records : LosesRecords (regions old) (regions new)
  pub flex : KeepsFlex (store_of old) (store_of new)

-- What is kept where a block is given back that is no image: only records of heaps go, and what
-- modules there are makes no difference.
pub record DropsHeaps (old new : AddressMap) : Type 0 where
  pub sound : StaysSound old new
  pub pages : HasSystemPages new
  pub classes : AreClasses new
  pub others : (store_of new).others ≡ (store_of old).others
  pub mapping : mapping new ≡ mapping old
  pub records : LosesHeaps old new
  pub flex : KeepsFlex (store_of old) (store_of new)

-- What an action keeps, whose image is pending or settled: the module state is sound, and the
-- records have become what the action makes of them.
pub record KeepsState (old new : AddressMap) (l : AreaTable) (modules : List Module) (pending : List Image)
    (Records : List Region → List Region → Type 0) : Type 0 where
  pub sound : IsModuleState (module_state_of new l modules) pending
  pub classes : AreClasses new
  pub mapping : mapping new ≡ mapping old
  pub records : Records (regions old) (regions new)
  pub flex : KeepsFlex (store_of old) (store_of new)
