-- The calls of OS_Module, and of the SWIs of modules, keep each guest's heap that they don't
-- forget: done, or refused with an error.
use Rattle.std.proofs.Common.{ℕ, ◌≡◌, ◌≤◌, ◌==◌, Bool, true, false, length, List, Option, Some, None, Result, Ok, Err, refl}
use Rattle.std.specs.Prelude.{IfOk, if◌then◌else◌, ok_or}
use Rattle.profile.specs.Outcome.{bind}
use Rattle.profile.specs.Reasons.{module_reason}
use Rattle.profile.specs.ErrorNumber.{ErrorNumber}
use Rattle.profile.specs.ErrorNumber.TheVariants.{BadString, FrameLimit, SwiUnknown}
use Rattle.profile.specs.declared.reason.ModuleReason.{ModuleReason}
use Rattle.profile.specs.declared.reason.ModuleReason.TheVariants as reason
use Rattle.profile.specs.declared.swi.SwiName.TheVariants as swi
use Rattle.arm_core.specs.State.{State, register_of, with_register}
use Rattle.profile.specs.images.Entries.{Entry}
use Rattle.os_heap_words.specs.lists.Heap.{HeapList}
use Rattle.dynamic_areas.specs.Ground.{AreaStore}
use Rattle.rma.specs.Calls.{rma_claimed, rma_extended, rma_freed}
use Rattle.instances.proofs.GoingOn.{bound as bound_any}
use Rattle.instances.specs.Reading.{instance_info}
use Rattle.instances.specs.module_state.ModuleState.{ModuleState}
use Rattle.instances_table.specs.plans.Plans.{Plan}
use Rattle.instances_table.specs.Changes.{preferring, modules_after_rename}
use Rattle.instances_table.specs.Modules.{Module}
use Rattle.instances_table.specs.declared.parts.Handler.{Handler}
use Rattle.swi_dispatch_guest.specs.Refusals.{or_error}
use Rattle.swi_dispatch_guest.specs.Strings.{string_in}
use Rattle.swi_dispatch_guest.specs.SwiDispatchAnswersWords.{host_string}
use Rattle.swi_dispatch_guest.specs.Refusal.{Refusal}
use Rattle.swi_dispatch_guest.specs.Refusal.TheVariants as refusal
use Rattle.swi_dispatch_guest.specs.SwiDispatchPlansCalls.{result_of_module_call as area_called, module_called_for as area_called_for}
use Rattle.swi_dispatch_guest.specs.Naming.{instance_found, instance_preferred, instance_renamed, place_asked, with_shown}
use Rattle.swi_dispatch_guest.specs.Openings.{opening_asked}
use Rattle.swi_dispatch_guest.specs.Opening.{Opening}
use Rattle.swi_dispatch_guest.specs.ImagePlans.{instantiation_planned}
use Rattle.swi_dispatch_guest.specs.ModulePlans.{clear_planned, delete_planned, reinit_planned, tidy_planned}
use Rattle.swi_dispatch_guest.specs.Additions.{Planned, copy_planned, insertion_planned, load_planned, named_load_planned, plan_alone}
use Rattle.swi_dispatch_guest.specs.Answers.{refusal_answer, went_on}
use Rattle.swi_dispatch_guest.specs.Calls.{call_answer, on_module_state}
use Rattle.swi_dispatch_guest.specs.MachineState.{MachineState, StepOutcome, machine_module_state, silent, setting_of, with_module_state}
use Rattle.swi_dispatch_guest.specs.Gates.{carried_on}
use Rattle.swi_dispatch_guest.specs.ModuleStart.{module_opened}
use Rattle.swi_dispatch_guest.specs.Returns.{gone_back}
use Rattle.swi_dispatch_guest.specs.Step.{outcome_of_planned, begun_alone, call_of, call_refused, outcome_of_answer, handler_entered, outcome_of_module_swi, module_entered, os_module_called, os_module_called_for}
use Rattle.law_machine.proofs.HeapFrameLemmas.Areas.{heap_same}
use Rattle.law_machine.proofs.HeapFrameLemmas.Holding.{keeps_all, keeps_both}
use Rattle.law_machine.proofs.HeapFrameLemmas.ModuleArea.{module_area_calls_fit}
use Rattle.law_machine.specs.heap_frame.FitAreaStores.{AreaStoreStaysFit, IsFitAreaStore}
use Rattle.law_machine.specs.heap_frame.Fits.{KeepsOutside}
use Rattle.law_machine.specs.heap_frame.PlanLaws.{IsFitModuleState}
use Rattle.law_machine.specs.heap_calls.Laws.{KeepsHeap}
use Rattle.law_machine.proofs.HeapAloneLemmas.Keeping.{error_kept}
use Rattle.law_machine.proofs.HeapAloneLemmas.ModuleHosts.{IsHost, KeepsRecorded, carried_out, fit_module_state, host_off, opened_out, outside_stays}
use Rattle.law_machine.proofs.HeapAloneLemmas.ModulePlans.{IsFitPlan}
use Rattle.law_machine.proofs.HeapAloneLemmas.PlansMade.{IsFitPlanned, alone_planned, clear_made, copy_made, delete_made, insertion_made, instantiation_made, load_made, named_load_made, opening_made, reinit_made, tidy_made}

-- calls that run no module code: what they leave of the module state
abbrev LeavesOut : ModuleState → State × ModuleState → Type 0
LeavesOut w q = KeepsOutside w.area_store.store q.1.area_store.store

claimed_out : (cpu : State) (w : ModuleState) (r : Result (AreaStore × ℕ) ErrorNumber) → IfOk r (λ x. AreaStoreStaysFit w.area_store x.0)
    → IfOk (bind (or_error r) (λ x. Ok (with_register cpu 2 x.1, record w { area_store = x.0 }))) (LeavesOut w)
claimed_out cpu w (Ok x) fit = fit.outside
claimed_out cpu w (Err e) fit = tt

freed_out : (cpu : State) (w : ModuleState) (r : Result (AreaStore × Unit {0}) ErrorNumber) → IfOk r (λ x. AreaStoreStaysFit w.area_store x.0)
    → IfOk (bind (or_error r) (λ x. Ok (cpu, record w { area_store = x.0 }))) (LeavesOut w)
freed_out cpu w (Ok x) fit = fit.outside
freed_out cpu w (Err e) fit = tt

same_out : {A : Type 0} (w : ModuleState) (r : Result A ErrorNumber) (f : A → State) → IfOk (bind (or_error r) (λ a. Ok (f a, w))) (LeavesOut w)
same_out w (Ok a) f = keeps_all w.area_store.store
same_out w (Err e) f = tt

names_out : (cpu : State) (w : ModuleState) (r : Result (List Module) ErrorNumber)
    → IfOk (or_error (bind r (λ modules. Ok (cpu, record w { modules = modules })))) (LeavesOut w)
names_out cpu w (Ok modules) = keeps_all w.area_store.store
names_out cpu w (Err e) = tt

found_out : {A : Type 0} (w : ModuleState) (r : Result A ErrorNumber) (f : A → State) → IfOk (or_error (bind r (λ a. Ok (f a, w)))) (LeavesOut w)
found_out w (Ok a) f = keeps_all w.area_store.store
found_out w (Err e) f = tt

module _ (cpu : State) (w : ModuleState) (fit : IsFitAreaStore w.area_store) where
  claim_fits : (r : Result (AreaStore × ℕ) ErrorNumber) → rma_claimed w.area_store (register_of cpu 3) ≡ r → IfOk r (λ x. AreaStoreStaysFit w.area_store x.0)
  claim_fits (Ok x) is = (module_area_calls_fit w.area_store x.0 fit).claim (register_of cpu 3) x.1 is
  claim_fits (Err e) is = tt

  free_fits : (r : Result (AreaStore × Unit {0}) ErrorNumber) → rma_freed w.area_store (register_of cpu 2) ≡ r → IfOk r (λ x. AreaStoreStaysFit w.area_store x.0)
  free_fits (Ok x) is = (module_area_calls_fit w.area_store x.0 fit).free (register_of cpu 2) is
  free_fits (Err e) is = tt

  extend_fits : (r : Result (AreaStore × ℕ) ErrorNumber) → rma_extended w.area_store (register_of cpu 2) (register_of cpu 3) ≡ r
      → IfOk r (λ x. AreaStoreStaysFit w.area_store x.0)
  extend_fits (Ok x) is = (module_area_calls_fit w.area_store x.0 fit).extend (register_of cpu 2) (register_of cpu 3) x.1 is
  extend_fits (Err e) is = tt

  renamed_out : IfOk (instance_renamed cpu w) (LeavesOut w)
  renamed_out =
      bound_any (LeavesOut w) (or_error (string_in w.area_store.store.bytes cpu 1)) _ (λ full.
      bound_any (LeavesOut w) (or_error (string_in w.area_store.store.bytes cpu 2)) _ (λ new.
      names_out cpu w (modules_after_rename w.modules full new)))

  preferred_out : IfOk (instance_preferred cpu w) (LeavesOut w)
  preferred_out =
      bound_any (LeavesOut w) (or_error (string_in w.area_store.store.bytes cpu 1)) _ (λ full. names_out cpu w (preferring w.modules full))

  looked_out : IfOk (instance_found cpu w) (LeavesOut w)
  looked_out = bound_any (LeavesOut w) (or_error (string_in w.area_store.store.bytes cpu 1)) _ (λ full. found_out w _ _)

  by_reason : (why : Option ModuleReason) → IfOk (area_called_for cpu w why) (LeavesOut w)
  by_reason (Some reason.DescribeArea) = keeps_all w.area_store.store
  by_reason (Some reason.Claim) = claimed_out cpu w (rma_claimed w.area_store (register_of cpu 3)) (claim_fits (rma_claimed w.area_store (register_of cpu 3)) refl)
  by_reason (Some reason.Free) = freed_out cpu w (rma_freed w.area_store (register_of cpu 2)) (free_fits (rma_freed w.area_store (register_of cpu 2)) refl)
  by_reason (Some reason.Info) = same_out w (instance_info w.area_store.store.bytes.at w.modules (place_asked cpu)) (with_shown cpu)
  by_reason (Some reason.Extend) =
      claimed_out cpu w (rma_extended w.area_store (register_of cpu 2) (register_of cpu 3))
      (extend_fits (rma_extended w.area_store (register_of cpu 2) (register_of cpu 3)) refl)
  by_reason (Some reason.Rename) = renamed_out
  by_reason (Some reason.Prefer) = preferred_out
  by_reason (Some reason.Lookup) = looked_out
  by_reason (Some reason.Run) = tt
  by_reason (Some reason.Load) = tt
  by_reason (Some reason.Enter) = tt
  by_reason (Some reason.Reinit) = tt
  by_reason (Some reason.Delete) = tt
  by_reason (Some reason.Tidy) = tt
  by_reason (Some reason.Clear) = tt
  by_reason (Some reason.Insert) = tt
  by_reason (Some reason.InsertCopy) = tt
  by_reason (Some reason.Instantiate) = tt
  by_reason None = tt

  pub area_call_out : IfOk (area_called cpu w) (LeavesOut w)
  unfolding area_called
  area_call_out = by_reason (module_reason (register_of cpu 0))

module _ (s : MachineState) (h : HeapList) (host : IsHost s h) where
  same : KeepsHeap h s.store s.store
  same = heap_same h s.store host.found

  abbrev Keeps : StepOutcome → Type 0
  Keeps o = KeepsRecorded h s.store o.now.store

  fit : IsFitModuleState (machine_module_state s)
  fit = fit_module_state s host.modules

  error_keeps : (x : Bool) (next : ℕ) (e : Refusal) → KeepsHeap h s.store (outcome_of_answer s x (refusal_answer s next e)).now.store
  error_keeps true next e = error_kept h s.store s e (host_off s h host) same
  error_keeps false next e = same

  pub refused_keeps : (x : Bool) (next : ℕ) (e : ErrorNumber) → KeepsHeap h s.store (call_refused s x next e).now.store
  refused_keeps x next e = error_keeps x next (refusal.System e)

  module_state_keeps : (x : Bool) (next : ℕ) (r : Result (State × ModuleState) Refusal) → IfOk r (LeavesOut (machine_module_state s)) → Keeps (outcome_of_answer s x (went_on s next (on_module_state s r)))
  module_state_keeps x next (Ok q) out = outside_stays s h q.1.area_store.store host out
  module_state_keeps x next (Err e) out = λ _. error_keeps x next e

  area_keeps : (x : Bool) (next number : ℕ) → Keeps (outcome_of_answer s x (call_answer s next number (Some swi.Module)))
  unfolding call_answer
  area_keeps x next number = module_state_keeps x next (area_called s.cpu (machine_module_state s)) (area_call_out s.cpu (machine_module_state s) fit.area_store)

  -- calls that may run module code
  begun_keeps : (x : Bool) (next : ℕ) (enters : Bool) (r : Result Planned ErrorNumber) → IfOk r (IsFitPlanned s) → Keeps (outcome_of_planned s x next enters r)
  unfolding outcome_of_planned
  begun_keeps x next enters (Err e) made = λ _. refused_keeps x next e
  begun_keeps x next enters (Ok w) made =
      let t : MachineState = with_module_state s w.module_state in
      let u : MachineState = carried_on t (call_of s x next enters) w.plan in
      let on : KeepsOutside t.store u.store =
      carried_out t (call_of s x next enters) w.plan (record { area_store = made.module_state.area_store.fit; slots = made.module_state.slots }) made.plan in
      outside_stays s h u.store host (keeps_both s.store t.store u.store made.module_state.area_store.outside on)

  alone_keeps : (x : Bool) (next : ℕ) (r : Result Plan ErrorNumber) → IfOk r IsFitPlan → Keeps (begun_alone s x next r)
  alone_keeps x next r made = begun_keeps x next false (bind r (λ p. Ok (plan_alone s p))) (alone_planned s r fit made)

  entered_keeps : (x : Bool) (next : ℕ) (r : Result Opening ErrorNumber) → IfOk r (λ o. length o.text.items ≤ 255) → Keeps (module_entered s x next r)
  entered_keeps x next (Err e) few = λ _. refused_keeps x next e
  entered_keeps x next (Ok o) few =
      let t : MachineState = module_opened (gone_back s.cpu.psr s false next) o in
      outside_stays s h t.store host (opened_out (gone_back s.cpu.psr s false next) o.text.items o.start.slot o.start.at fit.area_store few)

  module _ (images : List Entry) (x : Bool) (next number : ℕ) where
    reason_keeps : (why : Option ModuleReason) → Keeps (os_module_called_for images s x next number why)
    reason_keeps (Some reason.Run) = begun_keeps x next true (named_load_planned images s true) (named_load_made images s true fit)
    reason_keeps (Some reason.Load) = begun_keeps x next false (named_load_planned images s false) (named_load_made images s false fit)
    reason_keeps (Some reason.Enter) = entered_keeps x next (opening_asked (setting_of s)) (opening_made (setting_of s))
    reason_keeps (Some reason.Reinit) = alone_keeps x next (reinit_planned (setting_of s)) (reinit_made (setting_of s) fit.slots)
    reason_keeps (Some reason.Delete) = alone_keeps x next (delete_planned (setting_of s)) (delete_made (setting_of s) fit.slots)
    reason_keeps (Some reason.Tidy) = alone_keeps x next (tidy_planned (setting_of s) next) (tidy_made (setting_of s) next)
    reason_keeps (Some reason.Clear) = alone_keeps x next (clear_planned (setting_of s)) (clear_made (setting_of s) fit.slots)
    reason_keeps (Some reason.Insert) = begun_keeps x next false (insertion_planned s) (insertion_made s fit)
    reason_keeps (Some reason.InsertCopy) = begun_keeps x next false (copy_planned s) (copy_made s fit)
    reason_keeps (Some reason.Instantiate) = alone_keeps x next (instantiation_planned (setting_of s)) (instantiation_made (setting_of s))
    reason_keeps (Some reason.DescribeArea) = area_keeps x next number
    reason_keeps (Some reason.Claim) = area_keeps x next number
    reason_keeps (Some reason.Free) = area_keeps x next number
    reason_keeps (Some reason.Info) = area_keeps x next number
    reason_keeps (Some reason.Extend) = area_keeps x next number
    reason_keeps (Some reason.Rename) = area_keeps x next number
    reason_keeps (Some reason.Prefer) = area_keeps x next number
    reason_keeps (Some reason.Lookup) = area_keeps x next number
    reason_keeps None = area_keeps x next number

    pub os_module_keeps : KeepsRecorded h s.store (os_module_called images s x next number).now.store
    unfolding os_module_called
    os_module_keeps = reason_keeps (module_reason (register_of s.cpu 0))

  -- a module that is loaded from outside
  pub loaded_keeps : (images : List Entry) (x : Bool) (next : ℕ) (text : List ℕ)
      → KeepsRecorded h s.store (outcome_of_planned s x next false (bind (ok_or (host_string text) BadString) (λ words. load_planned images s words false))).now.store
  loaded_keeps images x next text =
      begun_keeps x next false (bind (ok_or (host_string text) BadString) (λ words. load_planned images s words false))
      (bound_any (IsFitPlanned s) (ok_or (host_string text) BadString) (λ words. load_planned images s words false)
      (λ words. load_made images s words false fit))

  -- a SWI of a module forgets none
  handled_by : (x : Bool) (next number : ℕ) (handler : Handler) (full : Bool)
      → KeepsHeap h s.store (if full then call_refused s x next FrameLimit else silent (handler_entered s (call_of s x next false) number handler)).now.store
  handled_by x next number handler true = refused_keeps x next FrameLimit
  handled_by x next number handler false = same

  pub module_swi_keeps : (x : Bool) (next number : ℕ) (o : Option Handler) → KeepsHeap h s.store (outcome_of_module_swi s x next number o).now.store
  module_swi_keeps x next number None = refused_keeps x next SwiUnknown
  module_swi_keeps x next number (Some handler) = handled_by x next number handler (length s.tables.frames == 32)
