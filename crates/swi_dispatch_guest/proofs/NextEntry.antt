-- The code that a call on modules enters next is at the entry that the first action calls that is left, and so
-- a call is carried on.
use Rattle.profile.specs.MemoryMap.{environment_text_start}
use Rattle.std.proofs.Common.{◌≡◌, ℕ, ◌==◌, Option, Some, None, List, [], ◌∷◌, refl, sym, ap, subst, ◌∙◌, inl, inr}
use Rattle.std.specs.Prelude.{IfSome, slice_get}
use Rattle.std.proofs.lemmas.Bool.{cases_Bool}
use Rattle.swi_dispatch_plans.specs.PlanAction.{PlanAction}
use Rattle.swi_dispatch_plans.specs.PlanAction.TheVariants as act
use Rattle.swi_dispatch_plans.specs.Code.{Code}
use Rattle.swi_dispatch_plans.specs.CodeKind.{CodeKind}
use Rattle.swi_dispatch_plans.specs.CodeKind.TheVariants as kind
use Rattle.swi_dispatch_plans.specs.Carrying.{Carried, carry_of_plan, carried_by, carried_from}
use Rattle.swi_dispatch_plans.specs.Plans.{Plan, first_action, plan_after_code}
use Rattle.swi_dispatch_plans.specs.Place.{Place}
use Rattle.swi_dispatch_plans.specs.Lookup.{place_of_slot}
use Rattle.swi_dispatch_plans.specs.InstancesTableModules.{Module}
use Rattle.swi_dispatch_plans.specs.ModuleState.{ModuleState, module_state_of}
use Rattle.swi_dispatch_plans.specs.Turns.{IsUnderWay, module_doing}
use Rattle.swi_dispatch_plans.specs.Codes.{code_among, code_at, code_to_enter, entered_at, entered_in, entry_offset, fatal_word}
use Rattle.os_heap.specs.AddressMap.{AddressMap}
use Rattle.arm_run.specs.State.{State}
use Rattle.swi_dispatch_plans.specs.Areas.{AreaTable}
use Rattle.os_heap.specs.Store.{AreClasses, store_of}
use Rattle.swi_dispatch_plans.specs.Keeping.{KeepsFlex}
use Rattle.swi_dispatch_plans.specs.Sound.{IsModuleState}
use Rattle.swi_dispatch_plans.specs.Naming.{KeepsOtherInstances}
use Rattle.swi_dispatch_plans.specs.Outcome.{Outcome as CodeOutcome}
use Rattle.swi_dispatch_plans.specs.Call.{Call}
use Rattle.swi_dispatch_plans.specs.Frame.{Frame}
use Rattle.swi_dispatch_plans.specs.ModuleCode.{core_by, frames_by, kept_by, plan_unless_code}
use Rattle.swi_dispatch_guest.specs.Carried.{IsCarriedNext}
use Rattle.swi_dispatch_guest.specs.OpenFrames.{entry_called}

-- an action's code is at the entry that the action calls
entry_or : CodeKind → ℕ → Option Code → CodeKind × ℕ
entry_or k slot None = (k, slot)
entry_or k slot (Some code) = (code.kind, code.slot)

entry_at : (k : CodeKind) (slot entry r10 number : ℕ) (m : Module)
    → entry_or k slot (code_at k slot entry r10 number m) ≡ (k, slot)
unfolding entry_or
entry_at k slot entry r10 number m = elim (cases_Bool (entry == 0)) [
  | inl none ↦ rw none refl
  | inr some ↦ rw some refl
]

entry_in : (k : CodeKind) (slot r10 number : ℕ) (m : Option Module)
    → entry_or k slot (entered_in k slot r10 number m) ≡ (k, slot)
unfolding entry_or
entry_in k slot r10 number None = refl
entry_in k slot r10 number (Some m) = entry_at k slot (entry_offset k m.header) r10 number m

entry_among : (k : CodeKind) (slot r10 : ℕ) (ms : List Module) (place : Option Place)
    → entry_or k slot (entered_at k slot r10 ms place) ≡ (k, slot)
unfolding entry_or
entry_among k slot r10 ms None = refl
entry_among k slot r10 ms (Some place) = entry_in k slot r10 place.instance (slice_get ms place.number)

abbrev some_entry : CodeKind × ℕ → Option (CodeKind × ℕ)
some_entry e = Some e

entry_entered : (k : CodeKind) (slot r10 : ℕ) (ms : List Module) (code : Code) → code_to_enter k slot r10 ms ≡ Some code
    → some_entry (k, slot) ≡ some_entry (code.kind, code.slot)
unfolding entry_or
entry_entered k slot r10 ms code is =
    ap some_entry
    (sym (entry_among k slot r10 ms (place_of_slot slot ms)) ∙ ap (entry_or k slot) is)

entry_of_code : (ms : List Module) (a : PlanAction) (code : Code) → code_among ms a ≡ Some code
    → entry_called (Some a) ≡ Some (code.kind, code.slot)
unfolding code_among
entry_of_code ms (act.Finalise s f) code is = entry_entered kind.Finalise s (fatal_word f) ms code is
entry_of_code ms (act.Initialise s) code is = entry_entered kind.Initialise s environment_text_start ms code is
entry_of_code ms (act.Remove s) code is = cc
entry_of_code ms (act.FreePrivate s) code is = cc
entry_of_code ms (act.Insert s) code is = cc
entry_of_code ms (act.Instantiate s) code is = cc
entry_of_code ms act.GiveUp code is = cc
entry_of_code ms act.Slide code is = cc

-- so for a call that is carried on
entry_by : (w : ModuleState) (p : Plan) (a : PlanAction) (others : List PlanAction) (o : Option Code)
    (on : ModuleState → Plan → Carried ModuleState) (code : Code) → code_among w.modules a ≡ o
    → ((v : ModuleState) (q : Plan) → (on v q).code ≡ Some code
    → entry_called (first_action (on v q).rest.actions) ≡ Some (code.kind, code.slot))
    → (carried_by module_doing w p a others o on).code ≡ Some code
    → entry_called (first_action (carried_by module_doing w p a others o on).rest.actions) ≡ Some (code.kind, code.slot)
entry_by w p a others (Some c) on code is later has = entry_of_code w.modules a code (is ∙ has)
entry_by w p a others None on code is later has = later _ _ has

entry_from : (actions : List PlanAction) (w : ModuleState) (p : Plan) (code : Code)
    → (carried_from module_doing actions w p).code ≡ Some code
    → entry_called (first_action (carried_from module_doing actions w p).rest.actions) ≡ Some (code.kind, code.slot)
entry_from [] w p code has = cc
entry_from (a ∷ others) w p code has =
    entry_by w p a others (code_among w.modules a) (carried_from module_doing others) code refl
    (λ v q later. entry_from others v q code later) has

pub next_entry : (w v : ModuleState) (p q : Plan) (o : Option Code)
    → carry_of_plan module_doing w p ≡ record { module_state = v; rest = q; code = o }
    → IfSome o (λ c. entry_called (first_action q.actions) ≡ Some (c.kind, c.slot))
unfolding carry_of_plan
next_entry w v p q None is = tt
next_entry w v p q (Some code) is =
    subst (λ (x : Carried ModuleState). entry_called (first_action x.rest.actions) ≡ Some (code.kind, code.slot)) is
    (entry_from p.actions w p code (ap (λ (x : Carried ModuleState). x.code) is))

-- a call that is carried on, and its next code entered
pub carried_next : (m n : AddressMap) (area_table : AreaTable) (old new : List Module) (cpu cpu' : State) (fs fs' : List Frame) (call : Call)
    (p rest : Plan) (o : CodeOutcome) (code : Option Code) (plans : Option Plan × Option Plan)
    → carry_of_plan module_doing (module_state_of m area_table old) (plan_after_code p o)
    ≡ record { module_state = module_state_of n area_table new; rest = rest; code = code }
    → (code ≡ None → IsModuleState (module_state_of n area_table new) []) → IsUnderWay (module_state_of n area_table new) rest
    → KeepsOtherInstances old new p rest code → AreClasses n → KeepsFlex (store_of m) (store_of n)
    → cpu' ≡ core_by cpu code → fs' ≡ frames_by fs cpu call code → plans ≡ (kept_by rest code, plan_unless_code rest code)
    → IsCarriedNext m n area_table old new (record { cpu = cpu; frames = fs }) (record { cpu = cpu'; frames = fs' }) call p o plans
carried_next m n area_table old new cpu cpu' fs fs' call p rest o code plans carried ended going others classes flex core opens is = record {
  rest = rest;
  code = code;
  carried = carried;
  next = next_entry _ _ _ _ _ carried;
  ended = ended;
  going = going;
  others = others;
  classes = classes;
  flex = flex;
  core = core;
  opens = opens;
  plans = is;
}
