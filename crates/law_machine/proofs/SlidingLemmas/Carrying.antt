-- A call on modules that is carried on: what it leaves of the machine beside what its actions do to
-- the module state.
use Rattle.std.proofs.Common.{ℕ, Bool, true, false, ◌≡◌, ◌≤◌, List, Option, Some, None, Result, Ok, Err, length, refl}
use Rattle.profile.specs.ErrorNumber.{ErrorNumber}
use Rattle.instances_table.specs.declared.plans.code.Code.{Code}
use Rattle.instances_table.specs.declared.plans.given.Given.{Given}
use Rattle.instances_table.specs.plans.Carrying.{Carried}
use Rattle.instances_table.specs.plans.Plans.{Plan}
use Rattle.instances.specs.module_state.ModuleState.{ModuleState}
use Rattle.instances.specs.declared.answers.Start.{Start}
use Rattle.instances.specs.Reading.{start_found}
use Rattle.swi_dispatch_guest.specs.Call.{Call}
use Rattle.swi_dispatch_guest.specs.Gates.{call_ended_by, entered_if, entered_with, ended_of, state_after_plan, kept_by, state_with_code_entered}
use Rattle.swi_dispatch_guest.specs.Returns.{gone_back}
use Rattle.swi_dispatch_guest.specs.MachineState.{MachineState, machine_module_state}
use Rattle.swi_dispatch_guest.specs.ModuleStart.{opened_at}
use Rattle.law_machine.proofs.SlidingLemmas.Behind.{IsTexted, text_texted, texted_same}

-- the machine after it
abbrev pub gone : MachineState → Call → Carried ModuleState → MachineState
gone s call c = state_after_plan (state_with_code_entered s call c) call (ended_of c)

-- a machine where only texts were written
record IsTextedOnly (s t : MachineState) : Type 0 where
  texted : IsTexted (machine_module_state s) (machine_module_state t)
  plan : t.tables.plan ≡ s.tables.plan
  flex : t.tables.flex ≡ s.tables.flex

opened_only : (s : MachineState) (text : List ℕ) (slot : ℕ) (o : Option ℕ) → length text ≤ 255 → IsTextedOnly s (opened_at s text slot o)
opened_only s text slot None few = record { texted = texted_same (machine_module_state s); plan = refl; flex = refl }
opened_only s text slot (Some at) few = record { texted = text_texted (machine_module_state s) text few; plan = refl; flex = refl }

entered_only : (s : MachineState) (text : List ℕ) (r : Result Start ErrorNumber) → length text ≤ 255 → IsTextedOnly s (entered_with s text r)
entered_only s text (Ok start) few = opened_only s text start.slot start.at few
entered_only s text (Err e) few = record { texted = texted_same (machine_module_state s); plan = refl; flex = refl }

if_only : (s : MachineState) (enters : Bool) (g : Given) → length g.text.items ≤ 255 → IsTextedOnly s (entered_if enters s g)
if_only s true g few = entered_only s g.text.items (start_found s.tables.modules g.header.title.items) few
if_only s false g few = record { texted = texted_same (machine_module_state s); plan = refl; flex = refl }

-- what a call leaves, of which a module state and a plan are left
pub record IsCarriedOn (s t : MachineState) (c : Carried ModuleState) : Type 0 where
  pub texted : IsTexted c.module_state (machine_module_state t)
  pub plan : t.tables.plan ≡ kept_by c.rest c.code
  pub flex : t.tables.flex ≡ s.tables.flex

ended_only : (s : MachineState) (call : Call) (g : Given) (first : Option ℕ) → length g.text.items ≤ 255 → IsTextedOnly s (call_ended_by s call g first)
ended_only s call g (Some r0) few = record { texted = texted_same (machine_module_state s); plan = refl; flex = refl }
ended_only s call g None few =
    let r = if_only (gone_back call.caller s false call.next) call.enters g few in
    record { texted = r.texted; plan = r.plan; flex = r.flex }

carried_by : (s : MachineState) (call : Call) (w : ModuleState) (q : Plan) (o : Option Code) → length q.given.text.items ≤ 255
    → IsCarriedOn s (gone s call (record { module_state = w; rest = q; code = o })) (record { module_state = w; rest = q; code = o })
carried_by s call w q (Some code) few = record { texted = texted_same w; plan = refl; flex = refl }
carried_by s call w q None few =
    let r = ended_only (state_with_code_entered s call (record { module_state = w; rest = q; code = None })) call q.given q.first few in
    record { texted = r.texted; plan = r.plan; flex = r.flex }

pub carried_so : (s : MachineState) (call : Call) (c : Carried ModuleState) → length c.rest.given.text.items ≤ 255 → IsCarriedOn s (gone s call c) c
carried_so s call c few = carried_by s call c.module_state c.rest c.code few
