-- The written machine at its start.
use Rattle.std.proofs.Common.{inl, ◌≡◌, Bool, false, true, IsSome, [], Option, Some, None, refl, ap}
use Rattle.profile.specs.Sizes.{Sizes}
use Rattle.os_heap.specs.AddressMap.{AddressMap}
use Rattle.os_heap.specs.Memory.{free_pages}
use Rattle.arm_run.specs.State.{cpu_start_state}
use Rattle.swi_dispatch_plans.specs.Sound.{IsModuleState}
use Rattle.swi_dispatch_plans.specs.ModuleState.{module_state_of}
use Rattle.swi_dispatch_plans.proofs.Starting.{start_module_state}
use Rattle.os_heap.specs.Store.{Store, store_of}
use Rattle.swi_dispatch_plans.specs.Areas.{start_area_table}
use Rattle.swi_dispatch_plans.specs.Ground.{AreAreas, IsRecorded, pool_of, system_pages_range}
use Rattle.swi_dispatch_plans.proofs.HeapCalls.{pool_is}
use Rattle.swi_dispatch_guest.specs.declared.halt.Halt.{Halt}
use Rattle.swi_dispatch_guest.specs.MachineState.{MachineState, machine_start}
use Rattle.swi_dispatch_guest.proofs.Kept.{over, with_core}
use Rattle.swi_dispatch_plans.specs.DynamicAreasStart.{start_store}

pub starts : (m : AddressMap) (s : Sizes) → store_of m ≡ start_store s → AreAreas (store_of m) (free_pages m) (start_area_table s)
    → over m cpu_start_state (record { area_table = start_area_table s; modules = []; frames = []; plan = None; flex = record { extent = None } }) None ≡ machine_start s
unfolding machine_start
starts m s e areas =
    let pool : free_pages m ≡ pool_of (start_area_table s) = pool_is _ _ _ areas in
    λ i. with_core cpu_start_state (pool i) (record { area_table = start_area_table s; modules = []; frames = []; plan = None; flex = record { extent = None } }) None (e i)

pub system_recorded : (m : AddressMap) (s : Sizes) → store_of m ≡ start_store s → IsRecorded system_pages_range (store_of m).others
system_recorded m s e = rw e (inl refl)

-- and there are no modules yet
pub start_modules : (m : AddressMap) (s : Sizes) → store_of m ≡ start_store s → AreAreas (store_of m) (free_pages m) (start_area_table s)
    → IsModuleState (module_state_of m (start_area_table s) []) []
start_modules m s e areas = start_module_state (module_state_of m (start_area_table s) []) areas (ap (λ (t : Store). t.others) e) refl
