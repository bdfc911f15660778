-- The plans of the module calls (RISC OS 3 Programmer's Reference Manual, "Modules", OS_Module:
-- load, delete, re-initialise, tidy, clear, insert, copy, new instantiation). Instances are named
-- by slots, oldest first. The order of the actions of a tidy that is refused is this project's own.
use Rattle.std.specs.Prelude.{ℕ, true, false, List, [], ◌∷◌, ◌++◌}
use Rattle.instances_table.specs.declared.plans.action.PlanAction.{PlanAction}
use Rattle.instances_table.specs.declared.plans.action.PlanAction.TheVariants as act
use Rattle.instances_table.specs.declared.plans.given.Given.{Given}
use Rattle.instances_table.specs.plans.Plans.{Plan, plan_of}

-- Each instance is finalised for good and removed, one after another.
abbrev pub clear_actions : List ℕ → List PlanAction
clear_actions [] = []
clear_actions (slot ∷ others) = act.Finalise slot true ∷ act.Remove slot ∷ clear_actions others

-- So goes one instance.
abbrev pub delete_actions : ℕ → List PlanAction
delete_actions slot = clear_actions (slot ∷ [])

-- The instances of an older module of the title go; then the new one is added, with its first
-- instance, which is initialised.
abbrev pub load_actions : List ℕ → ℕ → List PlanAction
load_actions old slot = clear_actions old ++ act.Insert slot ∷ act.Initialise slot ∷ []

-- An instance is finalised for good, its block is freed, and it is initialised.
abbrev pub reinit_actions : ℕ → List PlanAction
reinit_actions slot = act.Finalise slot true ∷ act.FreePrivate slot ∷ act.Initialise slot ∷ []

-- An instance is added, and initialised.
abbrev pub instantiate_actions : ℕ → List PlanAction
instantiate_actions slot = act.Instantiate slot ∷ act.Initialise slot ∷ []

-- All are finalised, not for good; the module area is tidied; all are initialised.
abbrev pub finalise_all : List ℕ → List PlanAction
finalise_all [] = []
finalise_all (slot ∷ others) = act.Finalise slot false ∷ finalise_all others

abbrev pub initialise_all : List ℕ → List PlanAction
initialise_all [] = []
initialise_all (slot ∷ others) = act.Initialise slot ∷ initialise_all others

abbrev pub tidy_actions : List ℕ → List PlanAction
tidy_actions slots = finalise_all slots ++ act.Slide ∷ initialise_all slots

-- Where a finalisation refuses, a load gives its image up, and the other calls end. A tidy then
-- initialises those that it has finalised, by `actions_owed`.
abbrev pub load_plan : Given → List ℕ → ℕ → Plan
load_plan given old slot = plan_of given (load_actions old slot) (act.GiveUp ∷ [])

abbrev pub delete_plan : Given → ℕ → Plan
delete_plan given slot = plan_of given (delete_actions slot) []

abbrev pub clear_plan : Given → List ℕ → Plan
clear_plan given slots = plan_of given (clear_actions slots) []

abbrev pub reinit_plan : Given → ℕ → Plan
reinit_plan given slot = plan_of given (reinit_actions slot) []

abbrev pub instantiate_plan : Given → ℕ → Plan
instantiate_plan given slot = plan_of given (instantiate_actions slot) []

abbrev pub tidy_plan : Given → List ℕ → Plan
tidy_plan given slots = plan_of given (tidy_actions slots) []
