-- What each action of a plan does to the module state, before its code runs (RISC OS 3 Programmer's
-- Reference Manual, "Modules", "Initialisation entry point", "Finalisation entry point", and
-- OS_Module). An action of a slot that no instance has does nothing to the list.
use Rattle.std.specs.Prelude.{ℕ, List, Option}
use Rattle.instances_table.specs.declared.plans.action.PlanAction.{PlanAction}
use Rattle.instances_table.specs.declared.plans.action.PlanAction.TheVariants as act
use Rattle.instances_table.specs.declared.plans.code.Code.{Code}
use Rattle.instances_table.specs.declared.plans.given.Given.{Given}
use Rattle.instances_table.specs.plans.Carrying.{Doing}
use Rattle.instances_table.specs.declared.parts.Image.{Image}
use Rattle.instances_table.specs.Additions.{added_to}
use Rattle.instances_table.specs.Modules.{Module}
use Rattle.instances_table.specs.Lookup.{number_of_title}
use Rattle.instances_table.specs.Changes.{with_module}
use Rattle.instances.specs.module_state.ModuleState.{ModuleState, image_gone, private_freed, module_state_after_remove, with_private, with_text}
use Rattle.instances.specs.actions.Codes.{code_among}

abbrev pub image_given : Given → Image
image_given g = record { at = g.image; len = g.len }

-- the modules after a new one is added, or an instance to the one of a title
abbrev pub with_new : Given → ℕ → List Module → List Module
with_new g slot modules = with_module modules g.header (image_given g) slot

abbrev pub with_another : Given → ℕ → List Module → List Module
with_another g slot modules =
    added_to (number_of_title g.header.title.items modules) g.name.items slot modules

-- The slide of the module area is a parameter: it takes the return address of the call and the
-- module state, and answers the module state after it.
abbrev pub module_state_after_action : (ℕ → ModuleState → ModuleState) → Given → ModuleState → PlanAction →
    ModuleState
module_state_after_action slide g w (act.Finalise slot fatal) = w
module_state_after_action slide g w (act.Remove slot) = module_state_after_remove w slot
module_state_after_action slide g w (act.FreePrivate slot) = record w
    { area_store = private_freed w.area_store slot }
module_state_after_action slide g w (act.Insert slot) = record
    { area_store = with_private w.area_store slot 0; modules = with_new g slot w.modules }
module_state_after_action slide g w (act.Instantiate slot) = record
    { area_store = with_private w.area_store slot 0; modules = with_another g slot w.modules }
module_state_after_action slide g w act.GiveUp = record w
    { area_store = image_gone w.area_store (image_given g) }
module_state_after_action slide g w act.Slide = slide g.return_address w
module_state_after_action slide g w (act.Initialise slot) = record w
    { area_store = with_text w.area_store g.text.items }

abbrev pub code_of : ModuleState → PlanAction → Option Code
code_of w a = code_among w.modules a

abbrev pub doing : (ℕ → ModuleState → ModuleState) → Doing ModuleState
doing slide = record { act = module_state_after_action slide; code_of = code_of }
