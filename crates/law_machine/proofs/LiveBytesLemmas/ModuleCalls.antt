-- What a call of OS_Module leaves: nothing is changed, or an error's block is written, or what its
-- reason does.
use Rattle.std.proofs.Common.{ℕ, ◌≤◌, Bool, true, false, length, List, Option, Some, None, Result, Ok, Err}
use Rattle.std.specs.Prelude.{IfOk}
use Rattle.profile.specs.Outcome.{bind}
use Rattle.profile.specs.Reasons.{module_reason}
use Rattle.profile.specs.ErrorNumber.{ErrorNumber}
use Rattle.profile.specs.declared.reason.ModuleReason.{ModuleReason}
use Rattle.profile.specs.declared.reason.ModuleReason.TheVariants as reason
use Rattle.profile.specs.declared.swi.SwiName.TheVariants as swi
use Rattle.arm_core.specs.State.{State, register_of}
use Rattle.profile.specs.images.Entries.{Entry}
use Rattle.os_heap.specs.Store.{Store}
use Rattle.instances.specs.module_state.ModuleState.{ModuleState}
use Rattle.instances_table.specs.plans.Plans.{Plan}
use Rattle.swi_dispatch_guest.specs.Refusal.{Refusal}
use Rattle.swi_dispatch_guest.specs.Refusal.TheVariants as refusal
use Rattle.swi_dispatch_guest.specs.Call.{Call}
use Rattle.swi_dispatch_guest.specs.SwiDispatchPlansCalls.{result_of_module_call as area_called}
use Rattle.swi_dispatch_guest.specs.Openings.{opening_asked}
use Rattle.swi_dispatch_guest.specs.Opening.{Opening}
use Rattle.swi_dispatch_guest.specs.ImagePlans.{instantiation_planned}
use Rattle.swi_dispatch_guest.specs.ModulePlans.{clear_planned, delete_planned, reinit_planned, tidy_planned}
use Rattle.swi_dispatch_guest.specs.Additions.{Planned, copy_planned, insertion_planned, named_load_planned, plan_alone}
use Rattle.swi_dispatch_guest.specs.Answers.{refusal_answer, went_on}
use Rattle.swi_dispatch_guest.specs.Calls.{call_answer, on_module_state}
use Rattle.swi_dispatch_guest.specs.Errors.{with_error}
use Rattle.swi_dispatch_guest.specs.Gates.{carried_on}
use Rattle.swi_dispatch_guest.specs.MachineState.{MachineState, machine_module_state, setting_of, with_module_state}
use Rattle.swi_dispatch_guest.specs.ModuleStart.{module_opened}
use Rattle.swi_dispatch_guest.specs.Returns.{gone_back}
use Rattle.swi_dispatch_guest.specs.Step.{outcome_of_planned, begun_alone, call_of, call_refused, outcome_of_answer, module_entered, os_module_called, os_module_called_for}
use Rattle.law_machine.specs.heap_frame.PlanLaws.{IsFitModuleState}
use Rattle.law_machine.proofs.HeapAloneLemmas.ModuleHosts.{HasModules, fit_module_state}
use Rattle.law_machine.proofs.HeapAloneLemmas.ModulePlans.{IsFitPlan}
use Rattle.law_machine.proofs.HeapAloneLemmas.PlansMade.{IsFitPlanned, alone_planned, clear_made, copy_made, delete_made, insertion_made, instantiation_made, named_load_made, opening_made, reinit_made, tidy_made}

-- what the call plans, if its reason is one that may run module code
abbrev pub plan_by : List Entry → MachineState → ℕ → Option ModuleReason → Option (Result Planned ErrorNumber)
plan_by images s next (Some reason.Run) = Some (named_load_planned images s true)
plan_by images s next (Some reason.Load) = Some (named_load_planned images s false)
plan_by images s next (Some reason.Reinit) = Some (bind (reinit_planned (setting_of s)) (λ p. Ok (plan_alone s p)))
plan_by images s next (Some reason.Delete) = Some (bind (delete_planned (setting_of s)) (λ p. Ok (plan_alone s p)))
plan_by images s next (Some reason.Tidy) = Some (bind (tidy_planned (setting_of s) next) (λ p. Ok (plan_alone s p)))
plan_by images s next (Some reason.Clear) = Some (bind (clear_planned (setting_of s)) (λ p. Ok (plan_alone s p)))
plan_by images s next (Some reason.Insert) = Some (insertion_planned s)
plan_by images s next (Some reason.InsertCopy) = Some (copy_planned s)
plan_by images s next (Some reason.Instantiate) = Some (bind (instantiation_planned (setting_of s)) (λ p. Ok (plan_alone s p)))
plan_by images s next other = None

abbrev pub Planning : (Planned → Type 0) → Option (Result Planned ErrorNumber) → Type 0
Planning Q (Some r) = IfOk r Q
Planning Q None = Unit {0}

-- A property of stores, and one of what is planned from which it follows of a call that is carried
-- on.
pub record HoldsOver (s : MachineState) (P : Store → Type 0) (Q : Planned → Type 0) : Type 0 where
  pub same : P s.store
  pub error : (e : Refusal) → P (with_error s e).store
  pub area : IfOk (area_called s.cpu (machine_module_state s)) (λ (q : State × ModuleState). P q.1.area_store.store)
  pub carried : (call : Call) (w : Planned) → IsFitPlanned s w → Q w → P (carried_on (with_module_state s w.module_state) call w.plan).store
  pub opened : (next : ℕ) (o : Opening) → length o.text.items ≤ 255 → P (module_opened (gone_back s.cpu.psr s false next) o).store

module _ (s : MachineState) (has : HasModules s) (P : Store → Type 0) (Q : Planned → Type 0) (holds : HoldsOver s P Q) where
  fit : IsFitModuleState (machine_module_state s)
  fit = fit_module_state s has

  error_has : (x : Bool) (next : ℕ) (e : Refusal) → P (outcome_of_answer s x (refusal_answer s next e)).now.store
  error_has true next e = holds.error e
  error_has false next e = holds.same

  refused_has : (x : Bool) (next : ℕ) (e : ErrorNumber) → P (call_refused s x next e).now.store
  refused_has x next e = error_has x next (refusal.System e)

  module_state_has : (x : Bool) (next : ℕ) (r : Result (State × ModuleState) Refusal) → IfOk r (λ (q : State × ModuleState). P q.1.area_store.store)
      → P (outcome_of_answer s x (went_on s next (on_module_state s r))).now.store
  module_state_has x next (Ok q) left = left
  module_state_has x next (Err e) left = error_has x next e

  area_has : (x : Bool) (next number : ℕ) → P (outcome_of_answer s x (call_answer s next number (Some swi.Module))).now.store
  unfolding call_answer
  area_has x next number = module_state_has x next (area_called s.cpu (machine_module_state s)) holds.area

  pub begun_has : (x : Bool) (next : ℕ) (enters : Bool) (r : Result Planned ErrorNumber) → IfOk r (IsFitPlanned s) → IfOk r Q → P (outcome_of_planned s x next enters r).now.store
  unfolding outcome_of_planned
  begun_has x next enters (Err e) made planned = refused_has x next e
  begun_has x next enters (Ok w) made planned = holds.carried (call_of s x next enters) w made planned

  alone_has : (x : Bool) (next : ℕ) (r : Result Plan ErrorNumber) → IfOk r IsFitPlan → IfOk (bind r (λ p. Ok (plan_alone s p))) Q
      → P (begun_alone s x next r).now.store
  alone_has x next r made planned = begun_has x next false (bind r (λ p. Ok (plan_alone s p))) (alone_planned s r fit made) planned

  entered_has : (x : Bool) (next : ℕ) (r : Result Opening ErrorNumber) → IfOk r (λ o. length o.text.items ≤ 255) → P (module_entered s x next r).now.store
  entered_has x next (Err e) few = refused_has x next e
  entered_has x next (Ok o) few = holds.opened next o few

  module _ (images : List Entry) (x : Bool) (next number : ℕ) where
    reason_has : (why : Option ModuleReason) → Planning Q (plan_by images s next why) → P (os_module_called_for images s x next number why).now.store
    reason_has (Some reason.Run) planned = begun_has x next true (named_load_planned images s true) (named_load_made images s true fit) planned
    reason_has (Some reason.Load) planned = begun_has x next false (named_load_planned images s false) (named_load_made images s false fit) planned
    reason_has (Some reason.Enter) planned = entered_has x next (opening_asked (setting_of s)) (opening_made (setting_of s))
    reason_has (Some reason.Reinit) planned = alone_has x next (reinit_planned (setting_of s)) (reinit_made (setting_of s) fit.slots) planned
    reason_has (Some reason.Delete) planned = alone_has x next (delete_planned (setting_of s)) (delete_made (setting_of s) fit.slots) planned
    reason_has (Some reason.Tidy) planned = alone_has x next (tidy_planned (setting_of s) next) (tidy_made (setting_of s) next) planned
    reason_has (Some reason.Clear) planned = alone_has x next (clear_planned (setting_of s)) (clear_made (setting_of s) fit.slots) planned
    reason_has (Some reason.Insert) planned = begun_has x next false (insertion_planned s) (insertion_made s fit) planned
    reason_has (Some reason.InsertCopy) planned = begun_has x next false (copy_planned s) (copy_made s fit) planned
    reason_has (Some reason.Instantiate) planned =
        alone_has x next (instantiation_planned (setting_of s)) (instantiation_made (setting_of s)) planned
    reason_has (Some reason.DescribeArea) planned = area_has x next number
    reason_has (Some reason.Claim) planned = area_has x next number
    reason_has (Some reason.Free) planned = area_has x next number
    reason_has (Some reason.Info) planned = area_has x next number
    reason_has (Some reason.Extend) planned = area_has x next number
    reason_has (Some reason.Rename) planned = area_has x next number
    reason_has (Some reason.Prefer) planned = area_has x next number
    reason_has (Some reason.Lookup) planned = area_has x next number
    reason_has None planned = area_has x next number

    pub os_module_has : Planning Q (plan_by images s next (module_reason (register_of s.cpu 0))) → P (os_module_called images s x next number).now.store
    unfolding os_module_called
    os_module_has planned = reason_has (module_reason (register_of s.cpu 0)) planned
