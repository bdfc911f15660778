-- A call that is under way on the module state: its plan finds what its actions ask for, and module code
-- runs only where an action has some (this project's own).
use Rattle.std.specs.Prelude.{◌≡◌, Bool, true, false, Option, Some, None, List, []}
use Rattle.rma.specs.Memory.{mapping, regions}
use Rattle.rma.specs.AddressMap.{AddressMap}
use Rattle.rma.specs.Region.{Region}
use Rattle.rma.specs.Areas.{AreaTable}
use Rattle.rma.specs.Store.{AreClasses, store_of}
use Rattle.rma.specs.flex_frame.Keeping.{KeepsFlex}
use Rattle.instances_table.specs.declared.plans.action.PlanAction.{PlanAction}
use Rattle.instances_table.specs.declared.plans.action.PlanAction.TheVariants.{Finalise, Initialise}
use Rattle.instances_table.specs.declared.plans.code.Code.{Code}
use Rattle.instances_table.specs.plans.Carrying.{Doing}
use Rattle.instances_table.specs.plans.Plans.{Plan, first_action}
use Rattle.instances.specs.module_state.Sound.{IsModuleState}
use Rattle.instances.specs.module_state.ModuleState.{ModuleState, module_state_of}
use Rattle.instances_table.specs.Modules.{Module}
use Rattle.instances.specs.actions.Actions.{doing}
use Rattle.instances.specs.actions.Codes.{code_among}
use Rattle.instances.specs.actions.Pending.{pending_of}
use Rattle.instances.specs.actions.Ready.{IsReady}
use Rattle.instances.specs.tidying.Slid.{module_state_slid}

-- What actions do to the module state, the slide of the module area among them.
abbrev pub module_doing : Doing ModuleState
module_doing = doing module_state_slid

-- has an action an entry of a module to call?
abbrev pub calls_module : Option PlanAction → Bool
calls_module (Some (Finalise slot fatal)) = true
calls_module (Some (Initialise slot)) = true
calls_module _ = false

-- the code at that entry, with what it is given in R10 to R12, if the module of its instance has it
abbrev pub code_called : List Module → Option PlanAction → Option Code
code_called modules None = None
code_called modules (Some action) = code_among modules action

pub record IsUnderWay (w : ModuleState) (p : Plan) : Type 0 where
  pub module_state : IsModuleState w (pending_of p)
  pub ready : IsReady w.modules p
  pub code : p.runs ≡ true → calls_module (first_action p.actions) ≡ true

-- A map that stands, with areas and modules, for such a module state, and whose words are marked.
pub record IsMapUnderWay (m : AddressMap) (l : AreaTable) (modules : List Module) (p : Plan) : Type 0 where
  pub going : IsUnderWay (module_state_of m l modules) p
  pub classes : AreClasses m

-- It is so still, and the records have become what the actions that were done make of them.
pub record KeepsUnderWay (old new : AddressMap) (l : AreaTable) (modules : List Module) (p : Plan)
    (Records : List Region → List Region → Type 0) : Type 0 where
  pub going : IsUnderWay (module_state_of new l modules) p
  pub classes : AreClasses new
  pub mapping : mapping new ≡ mapping old
  pub records : Records (regions old) (regions new)
  pub flex : KeepsFlex (store_of old) (store_of new)

-- A module state between module calls, or one whose call is under way while module code runs.
abbrev pub MayGoOn : ModuleState → Option Plan → Type 0
MayGoOn w None = IsModuleState w []
MayGoOn w (Some p) = (p.runs ≡ true) × IsUnderWay w p
