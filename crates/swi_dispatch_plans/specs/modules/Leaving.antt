-- What the calls on modules that run no module code leave of all else.
use Rattle.std.specs.Prelude.{◌≡◌, List, Option}
use Rattle.os_heap.specs.AddressMap.{AddressMap}
use Rattle.instances.specs.Areas.{AreaTable}
use Rattle.swi_dispatch_plans.specs.store.Leaving.{LeavesSound}
use Rattle.instances.specs.module_state.ModuleState.{module_state_of}
use Rattle.instances.specs.Turns.{MayGoOn}
use Rattle.swi_dispatch_answers.specs.Plans.{Plan}
use Rattle.instances.specs.Modules.{Module, slots_of}

-- Memory, areas and modules after a call: memory and areas as sound as before, the same instances,
-- and a call under way that could go on still can.
pub record LeavesModuleState (m n : AddressMap) (k l : AreaTable) (old new : List Module) : Type 0 where
  pub memory : LeavesSound m n k l
  pub slots : slots_of new ≡ slots_of old
  pub going : (plan : Option Plan) → MayGoOn (module_state_of m k old) plan → MayGoOn
      (module_state_of n l new) plan
