-- A call on modules that is carried on to its next code, or to its end, as the parts of the guest
-- stand then (this project's own).
use Rattle.std.specs.Prelude.{◌≡◌, IfSome, Option, Some, None, List, []}
use Rattle.os_heap.specs.AddressMap.{AddressMap}
use Rattle.arm_run.specs.State.{State}
use Rattle.swi_dispatch_plans.specs.Areas.{AreaTable}
use Rattle.os_heap.specs.Store.{AreClasses, store_of}
use Rattle.swi_dispatch_plans.specs.Keeping.{KeepsFlex}
use Rattle.swi_dispatch_plans.specs.Sound.{IsModuleState}
use Rattle.swi_dispatch_plans.specs.ModuleState.{module_state_of}
use Rattle.swi_dispatch_plans.specs.Code.{Code}
use Rattle.swi_dispatch_plans.specs.Outcome.{Outcome as CodeOutcome}
use Rattle.swi_dispatch_plans.specs.Carrying.{carry_of_plan}
use Rattle.swi_dispatch_plans.specs.Plans.{Plan, first_action, plan_after_code}
use Rattle.swi_dispatch_plans.specs.InstancesTableModules.{Module}
use Rattle.swi_dispatch_plans.specs.Call.{Call}
use Rattle.swi_dispatch_plans.specs.Frame.{Frame}
use Rattle.swi_dispatch_plans.specs.Naming.{KeepsOtherInstances}
use Rattle.swi_dispatch_plans.specs.Turns.{IsUnderWay, module_doing}
use Rattle.swi_dispatch_plans.specs.ModuleCode.{core_by, frames_by, kept_by, plan_unless_code}
use Rattle.swi_dispatch_guest.specs.OpenFrames.{entry_called}

-- the core, and the frames of module code that is under way
pub record CodeUnderWay : Type 0 where
  pub cpu : State
  pub frames : List Frame

-- What is left of the plan and its next code, if there is any, are those of the plan carried on;
-- the code is entered in a frame of the call, and the plan kept. No other instance went, and the
-- flex store stays.
pub record IsCarriedNext (m n : AddressMap) (area_table : AreaTable) (old new : List Module)
    (before after : CodeUnderWay)
    (call : Call) (plan : Plan) (outcome : CodeOutcome) (kept_ended : Option Plan × Option Plan) : Type 0
  where
    pub rest : Plan
    pub code : Option Code
    pub carried : carry_of_plan module_doing (module_state_of m area_table old) (plan_after_code plan outcome)
        ≡ record { module_state = module_state_of n area_table new; rest = rest; code = code }
    pub next : IfSome code (λ c. entry_called (first_action rest.actions) ≡ Some (c.kind, c.slot))
    pub ended : code ≡ None → IsModuleState (module_state_of n area_table new) []
    pub going : IsUnderWay (module_state_of n area_table new) rest
    pub others : KeepsOtherInstances old new plan rest code
    pub classes : AreClasses n
    pub flex : KeepsFlex (store_of m) (store_of n)
    pub core : after.cpu ≡ core_by before.cpu code
    pub opens : after.frames ≡ frames_by before.frames before.cpu call code
    pub plans : kept_ended ≡ (kept_by rest code, plan_unless_code rest code)
