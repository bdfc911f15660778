-- What the calls on modules leave, by what is said of memory and areas, or of the modules.
use Rattle.profile.specs.MemoryMap.{system_start}
use Rattle.std.proofs.Common.{◌≡◌, List, Option, refl, arith}
use Rattle.os_heap.proofs.InRange.{range_inside}
use Rattle.os_heap.specs.AddressMap.{AddressMap}
use Rattle.os_heap.specs.Bytes.{AreMapped}
use Rattle.os_heap.specs.Store.{store_of}
use Rattle.instances.specs.Areas.{AreaTable}
use Rattle.instances.specs.Ground.{IsAreaStore, area_store_of}
use Rattle.instances.specs.Kept.{IsAreaMap}
use Rattle.instances.proofs.HeapCalls.{system_mapped}
use Rattle.instances.specs.Modules.{Module, slots_of}
use Rattle.instances.specs.Turns.{MayGoOn}
use Rattle.instances.proofs.GoingOn.{may_go_on_kept}
use Rattle.instances.specs.module_state.ModuleState.{module_state_of}
use Rattle.swi_dispatch_answers.specs.Plans.{Plan}
use Rattle.swi_dispatch_plans.proofs.StoreLemmas.Leaving.{leaves_memory}
use Rattle.swi_dispatch_plans.specs.store.Leaving.{LeavesSound}
use Rattle.swi_dispatch_plans.specs.modules.Leaving.{LeavesModuleState}

-- a call on memory and areas
pub module_state_left : (m n : AddressMap) (k l : AreaTable) (modules : List Module) → LeavesSound m n k l → LeavesModuleState m n k l modules modules
module_state_left m n k l modules left = record {
  memory = left;
  slots = refl;
  going = λ plan going. may_go_on_kept (module_state_of m k modules) (module_state_of n l modules) plan left.area_store left.others refl going;
}

-- a call on the modules alone, and one that changes nothing
pub named_left : (m : AddressMap) (l : AreaTable) (old new : List Module) → IsAreaMap m l → slots_of new ≡ slots_of old
    → ((plan : Option Plan) → MayGoOn (module_state_of m l old) plan → MayGoOn (module_state_of m l new) plan)
    → LeavesModuleState m m l l old new
named_left m l old new is slots going = record { memory = leaves_memory m l is; slots = slots; going = going }

pub nothing_left : (m : AddressMap) (l : AreaTable) (modules : List Module) → IsAreaMap m l → LeavesModuleState m m l l modules modules
nothing_left m l modules is = module_state_left m m l l modules (leaves_memory m l is)

-- the private words of the modules are mapped
pub private_room : (m : AddressMap) (l : AreaTable) → IsAreaStore (area_store_of m l) → AreMapped (store_of m).bytes.mapped 0x01C02000 256
private_room m l area_store a low high =
    system_mapped _ _ l area_store a (range_inside system_start 0x3000 a (omega arith) (omega arith))
