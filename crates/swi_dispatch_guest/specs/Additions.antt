-- OS_Module, the reasons that add a module: what each does at once, and the plan of the rest (RISC
-- OS 3 Programmer's Reference Manual, "OS_Module", reasons 0, 1, 10 and 11).
use Rattle.std.specs.Prelude.{◌≡◌, ℕ, Bool, List, Option, Result, Ok, Err}
use Rattle.profile.specs.Outcome.{bind}
use Rattle.profile.specs.ErrorNumber.{ErrorNumber}
use Rattle.swi_dispatch_plans.specs.Entries.{Entry}
use Rattle.swi_dispatch_plans.specs.Plans.{Plan}
use Rattle.swi_dispatch_plans.specs.ModuleState.{ModuleState}
use Rattle.swi_dispatch_plans.specs.Adding.{copying, inserting, loading}
use Rattle.swi_dispatch_plans.specs.Call.{Call}
use Rattle.swi_dispatch_guest.specs.Gates.{ended_of, state_with_code_entered}
use Rattle.swi_dispatch_plans.specs.Trials.{module_state_carried}
use Rattle.swi_dispatch_plans.specs.PlannerInput.{string_asked}
use Rattle.swi_dispatch_plans.specs.ImagePlans.{copy_asked, insertion_asked, load_asked}
use Rattle.swi_dispatch_guest.specs.MachineState.{MachineState, machine_module_state, setting_of}

-- what a call is to do from here on
pub record Planned : Type 0 where
  pub module_state : ModuleState
  pub plan : Plan

abbrev pub plan_alone : MachineState → Plan → Planned
plan_alone s p = record { module_state = machine_module_state s; plan = p }

abbrev pub planned_of : Result (ModuleState × Plan) ErrorNumber → Result Planned ErrorNumber
planned_of r = bind r (λ w. Ok (record { module_state = w.0; plan = w.1 }))

-- an image of those that are given, and a text: a load that enters its module at its end may begin
-- only while no module code is under way
abbrev pub image_planned : MachineState → List ℕ → List ℕ → Result Planned ErrorNumber
image_planned s image text = planned_of (loading (machine_module_state s) image text)

unfoldable pub load_planned : List Entry → MachineState → List ℕ → Bool → Result Planned ErrorNumber
load_planned images s words enters = bind (load_asked images (setting_of s) words enters)
    (λ l. image_planned s l.image l.text)

-- reasons 0 and 1, run and load: R1 points to the name of an image and a text
abbrev pub named_load_planned : List Entry → MachineState → Bool → Result Planned ErrorNumber
named_load_planned images s enters = bind (string_asked (setting_of s) 1)
    (λ words. load_planned images s words enters)

-- reason 10, insert
abbrev pub range_planned : MachineState → ℕ → ℕ → Result Planned ErrorNumber
range_planned s at len = planned_of (inserting (machine_module_state s) at len)

unfoldable pub insertion_planned : MachineState → Result Planned ErrorNumber
insertion_planned s = bind (insertion_asked (setting_of s)) (λ range. range_planned s range.at range.len)

-- reason 11, copy
abbrev pub copied_range_planned : MachineState → ℕ → ℕ → Result Planned ErrorNumber
copied_range_planned s at len = planned_of (copying (machine_module_state s) at len)

unfoldable pub copy_planned : MachineState → Result Planned ErrorNumber
copy_planned s = bind (copy_asked (setting_of s)) (λ range. copied_range_planned s range.at range.len)

-- what a call comes to that does something at once, before it goes back if it has ended
abbrev pub Starts : MachineState → Call → Result Planned ErrorNumber → Result (Option Plan) ErrorNumber →
    MachineState
    → Type 0
Starts s call (Ok w) (Ok ended) t =
    (let c = module_state_carried w.module_state w.plan in (t ≡ state_with_code_entered s call c) ×
    (ended ≡ ended_of c))
Starts s call (Err e) (Err f) t = (f ≡ e) × (t ≡ s)
Starts s call r ended t = ⊥
