-- What flex calls ask of memory, and what they leave of all else.
use Rattle.std.specs.Prelude.{◌<◌, List, length}
use Rattle.os_heap.specs.AddressMap.{AddressMap}
use Rattle.swi_dispatch_plans.specs.flex_frame.Ground.{HasFlex}
use Rattle.flex_store.specs.declared.flex.Flex.{Flex}
use Rattle.instances.specs.Areas.{AreaTable}
use Rattle.instances.specs.Modules.{Module}
use Rattle.instances.specs.Image.{Image}
use Rattle.os_heap.specs.Store.{AreClasses, IsSound, store_of}
use Rattle.swi_dispatch_plans.specs.flex_frame.module_state.Sound.{IsModuleState}
use Rattle.swi_dispatch_plans.specs.flex_frame.module_state.ModuleState.{module_state_of}

-- Memory is sound and spells the flex store, if there is one, and a range more can be recorded.
pub record CanCallFlex (m : AddressMap) (f : Flex) : Type 0 where
  pub flex : HasFlex m f
  pub sound : IsSound (store_of m)
  pub classes : AreClasses m
  pub few : length (store_of m).others < 68

-- Memory after a call, and where the flex store is then: memory spells it, the marked words are
-- those of the lists, and whatever areas and modules stood on the memory still do.
pub record LeavesFlex (m n : AddressMap) (g : Flex) : Type 0 where
  pub flex : HasFlex n g
  pub classes : AreClasses n
  pub module_state : (l : AreaTable) (ms : List Module) (pending : List Image) → IsModuleState
      (module_state_of m l ms) pending
      → IsModuleState (module_state_of n l ms) pending
