-- What a call of OS_Module that moves no blocks leaves of the module area's blocks: what they hold.
use Rattle.profile.specs.MemoryMap.{module_area_start}
use Rattle.std.proofs.Common.{ℕ, ◌≡◌, ◌+◌, ◌&&◌, ◌∙◌, is_ok, Bool, true, false, List, Option, Some, None, Result, Ok, Err, refl, sym, ap, subst}
use Rattle.std.specs.Prelude.{IfOk, ok_or}
use Rattle.std.proofs.lemmas.Bool.{true≢false}
use Rattle.profile.specs.Outcome.{bind}
use Rattle.profile.specs.Reasons.{module_reason}
use Rattle.profile.specs.ErrorNumber.{ErrorNumber}
use Rattle.profile.specs.ErrorNumber.TheVariants.{BadString}
use Rattle.profile.specs.declared.reason.ModuleReason.{ModuleReason}
use Rattle.profile.specs.declared.reason.ModuleReason.TheVariants as reason
use Rattle.arm_core.specs.State.{State, register_of, with_register}
use Rattle.profile.specs.images.Entries.{Entry}
use Rattle.os_heap_words.specs.lists.Heap.{HeapList}
use Rattle.os_heap_words.specs.lists.Lists.{live_total}
use Rattle.os_heap.proofs.Found.{found_start}
use Rattle.os_heap.specs.Store.{find_heap}
use Rattle.dynamic_areas.specs.Ground.{AreaStore}
use Rattle.rma.specs.Calls.{rma_claimed, rma_extended, rma_freed}
use Rattle.instances.proofs.GoingOn.{bound as bound_any}
use Rattle.instances.specs.Reading.{instance_info}
use Rattle.instances.specs.module_state.ModuleState.{ModuleState}
use Rattle.instances_table.specs.plans.Plans.{Plan}
use Rattle.instances_table.specs.Changes.{preferring, modules_after_rename}
use Rattle.instances_table.specs.Modules.{Module}
use Rattle.swi_dispatch_guest.specs.Refusals.{or_error}
use Rattle.swi_dispatch_guest.specs.Strings.{string_in}
use Rattle.swi_dispatch_guest.specs.SwiDispatchAnswersWords.{host_string}
use Rattle.swi_dispatch_guest.specs.Refusal.{Refusal}
use Rattle.swi_dispatch_guest.specs.SwiDispatchPlansCalls.{result_of_module_call as area_called, module_called_for as area_called_for}
use Rattle.swi_dispatch_guest.specs.Naming.{instance_found, instance_preferred, instance_renamed, place_asked, with_shown}
use Rattle.swi_dispatch_guest.specs.ImagePlans.{instantiation_planned}
use Rattle.swi_dispatch_guest.specs.ModulePlans.{clear_planned, delete_planned, reinit_planned, tidy_planned}
use Rattle.swi_dispatch_guest.specs.Additions.{load_planned, plan_alone}
use Rattle.swi_dispatch_guest.specs.Errors.{with_error}
use Rattle.swi_dispatch_guest.specs.Gates.{carried_on}
use Rattle.swi_dispatch_guest.specs.MachineState.{MachineState, machine_area_store, machine_module_state, setting_of, with_module_state}
use Rattle.swi_dispatch_guest.specs.ModuleStart.{module_opened}
use Rattle.swi_dispatch_guest.specs.Returns.{gone_back}
use Rattle.swi_dispatch_guest.specs.Step.{outcome_of_planned, os_module_called}
use Rattle.law_machine.proofs.HeapFrameLemmas.Areas.{heap_same}
use Rattle.law_machine.proofs.HeapFrameLemmas.BlockCalls.{block_calls_keep}
use Rattle.law_machine.proofs.HeapFrameLemmas.Guests.{area_stores_fit}
use Rattle.law_machine.specs.heap_frame.BlockLaws.{total_in}
use Rattle.law_machine.specs.heap_frame.FitAreaStores.{IsFitAreaStore}
use Rattle.law_machine.specs.heap_frame.PlanLaws.{IsFitModuleState}
use Rattle.law_machine.proofs.HeapAloneLemmas.Keeping.{error_kept, off_system}
use Rattle.law_machine.proofs.HeapAloneLemmas.LiveBytes.{payload_inside}
use Rattle.law_machine.proofs.HeapAloneLemmas.ModuleHosts.{HasModules, fit_module_state}
use Rattle.law_machine.proofs.HeapAloneLemmas.PlansMade.{IsFitPlanned, load_made}
use Rattle.law_machine.proofs.HeapAloneLemmas.States.{HasStore, sound_store}
use Rattle.law_machine.proofs.LiveBytesLemmas.AreaBlocks.{nothing_kept}
use Rattle.law_machine.proofs.LiveBytesLemmas.Carried.{carried_were, opened_same}
use Rattle.law_machine.proofs.LiveBytesLemmas.Extending.{extends_keep, stay_kept, stay_were, were_kept}
use Rattle.law_machine.proofs.LiveBytesLemmas.Growing.{same_kept}
use Rattle.law_machine.proofs.LiveBytesLemmas.ModuleCalls.{HoldsOver, Planning, begun_has, os_module_has, plan_by}
use Rattle.law_machine.proofs.LiveBytesLemmas.Planned.{IsPlannedStill, alone_still, clear_none, copy_still, delete_none, insertion_still, instantiation_calm, load_still, named_load_still, reinit_none}
use Rattle.law_machine.specs.live_bytes.AreaLaws.{KeepsBoth}
use Rattle.law_machine.specs.live_bytes.Changes.{begins_tidy, is_tidy}

-- an error's block lies in the system pages
pub error_both : (s : MachineState) (e : Refusal) → HasStore s → KeepsBoth s.store (with_error s e).store
error_both s e has block total new_total a live live' here there =
    let fit : IsFitAreaStore (machine_area_store s) = area_stores_fit (machine_area_store s) has.area_store in
    let h : HeapList = fit.store.heap in
    let own : find_heap h.start s.store.heaps ≡ Some h =
    subst (λ (p : ℕ). find_heap p s.store.heaps ≡ Some h) (sym (found_start module_area_start s.store.heaps h fit.store.found)) fit.store.found in
    let was : live_total block (h.start + 16) h.items ≡ Some total = sym (ap (total_in block) fit.store.found) ∙ live in
    (error_kept h s.store s e (off_system s h has own) (heap_same h s.store own)).bytes a
    (payload_inside s.store h block total a (sound_store s has) own was here)

-- calls that run no module code: what they leave of the module state
abbrev LeavesBoth : ModuleState → State × ModuleState → Type 0
LeavesBoth w q = KeepsBoth w.area_store.store q.1.area_store.store

shown_both : (A : Type 0) (w : ModuleState) (r : Result A ErrorNumber) (f : A → State) → IfOk (bind (or_error r) (λ a. Ok (f a, w))) (LeavesBoth w)
shown_both A w (Ok a) f = nothing_kept w.area_store.store
shown_both A w (Err e) f = tt

names_both : (cpu : State) (w : ModuleState) (r : Result (List Module) ErrorNumber)
    → IfOk (or_error (bind r (λ modules. Ok (cpu, record w { modules = modules })))) (LeavesBoth w)
names_both cpu w (Ok modules) = nothing_kept w.area_store.store
names_both cpu w (Err e) = tt

found_both : (A : Type 0) (w : ModuleState) (r : Result A ErrorNumber) (f : A → State) → IfOk (or_error (bind r (λ a. Ok (f a, w)))) (LeavesBoth w)
found_both A w (Ok a) f = nothing_kept w.area_store.store
found_both A w (Err e) f = tt

module _ (cpu : State) (w : ModuleState) (fit : IsFitAreaStore w.area_store) where
  claimed_both : (r : Result (AreaStore × ℕ) ErrorNumber) → rma_claimed w.area_store (register_of cpu 3) ≡ r
      → IfOk (bind (or_error r) (λ x. Ok (with_register cpu 2 x.1, record w { area_store = x.0 }))) (LeavesBoth w)
  claimed_both (Ok x) is = stay_kept w.area_store.store x.0.store ((block_calls_keep w.area_store x.0 fit).claim (register_of cpu 3) x.1 is)
  claimed_both (Err e) is = tt

  freed_both : (r : Result (AreaStore × Unit {0}) ErrorNumber) → rma_freed w.area_store (register_of cpu 2) ≡ r
      → IfOk (bind (or_error r) (λ x. Ok (cpu, record w { area_store = x.0 }))) (LeavesBoth w)
  freed_both (Ok x) is = were_kept w.area_store.store x.0.store ((block_calls_keep w.area_store x.0 fit).free (register_of cpu 2) is)
  freed_both (Err e) is = tt

  extended_both : (r : Result (AreaStore × ℕ) ErrorNumber) → rma_extended w.area_store (register_of cpu 2) (register_of cpu 3) ≡ r
      → IfOk (bind (or_error r) (λ x. Ok (with_register cpu 2 x.1, record w { area_store = x.0 }))) (LeavesBoth w)
  extended_both (Ok x) is = extends_keep w.area_store x.0 (register_of cpu 2) (register_of cpu 3) x.1 fit is
  extended_both (Err e) is = tt

  renamed_both : IfOk (instance_renamed cpu w) (LeavesBoth w)
  renamed_both =
      bound_any (LeavesBoth w) (or_error (string_in w.area_store.store.bytes cpu 1)) _ (λ full.
      bound_any (LeavesBoth w) (or_error (string_in w.area_store.store.bytes cpu 2)) _ (λ new.
      names_both cpu w (modules_after_rename w.modules full new)))

  preferred_both : IfOk (instance_preferred cpu w) (LeavesBoth w)
  preferred_both =
      bound_any (LeavesBoth w) (or_error (string_in w.area_store.store.bytes cpu 1)) _ (λ full. names_both cpu w (preferring w.modules full))

  looked_both : IfOk (instance_found cpu w) (LeavesBoth w)
  looked_both = bound_any (LeavesBoth w) (or_error (string_in w.area_store.store.bytes cpu 1)) _ (λ full. found_both _ w _ _)

  by_reason : (why : Option ModuleReason) → IfOk (area_called_for cpu w why) (LeavesBoth w)
  by_reason (Some reason.DescribeArea) = nothing_kept w.area_store.store
  by_reason (Some reason.Claim) = claimed_both (rma_claimed w.area_store (register_of cpu 3)) refl
  by_reason (Some reason.Free) = freed_both (rma_freed w.area_store (register_of cpu 2)) refl
  by_reason (Some reason.Info) = shown_both _ w (instance_info w.area_store.store.bytes.at w.modules (place_asked cpu)) (with_shown cpu)
  by_reason (Some reason.Extend) = extended_both (rma_extended w.area_store (register_of cpu 2) (register_of cpu 3)) refl
  by_reason (Some reason.Rename) = renamed_both
  by_reason (Some reason.Prefer) = preferred_both
  by_reason (Some reason.Lookup) = looked_both
  by_reason (Some reason.Run) = tt
  by_reason (Some reason.Load) = tt
  by_reason (Some reason.Enter) = tt
  by_reason (Some reason.Reinit) = tt
  by_reason (Some reason.Delete) = tt
  by_reason (Some reason.Tidy) = tt
  by_reason (Some reason.Clear) = tt
  by_reason (Some reason.Insert) = tt
  by_reason (Some reason.InsertCopy) = tt
  by_reason (Some reason.Instantiate) = tt
  by_reason None = tt

  area_call_both : IfOk (area_called cpu w) (LeavesBoth w)
  unfolding area_called
  area_call_both = by_reason (module_reason (register_of cpu 0))

module _ (s : MachineState) (has : HasModules s) where
  fit : IsFitModuleState (machine_module_state s)
  fit = fit_module_state s has

  both_over : HoldsOver s (KeepsBoth s.store) (IsPlannedStill s)
  both_over = record {
    same = nothing_kept s.store;
    error = λ e. error_both s e has.store;
    area = area_call_both s.cpu (machine_module_state s) fit.area_store;
    carried = λ call w made still.
        let t : MachineState = with_module_state s w.module_state in
        stay_were s.store t.store (carried_on t call w.plan).store still.stay
        (carried_were t call w.plan (record { area_store = made.module_state.area_store.fit; slots = made.module_state.slots }) made.plan still.none);
    opened = λ next o few.
        same_kept s.store (module_opened (gone_back s.cpu.psr s false next) o).store
        (opened_same (gone_back s.cpu.psr s false next) o.text.items o.start.slot o.start.at fit.area_store);
  }

  -- all plans but that of a tidy, which may be refused
  refused_still : (r : Result Plan ErrorNumber) → is_ok r ≡ false → IfOk (bind r (λ p. Ok (plan_alone s p))) (IsPlannedStill s)
  refused_still (Ok p) refused = absurd (true≢false refused)
  refused_still (Err e) refused = tt

  still_by : (images : List Entry) (next : ℕ) (why : Option ModuleReason) → (is_tidy why && is_ok (tidy_planned (setting_of s) next)) ≡ false
      → Planning (IsPlannedStill s) (plan_by images s next why)
  still_by images next (Some reason.Run) calm = named_load_still images s true fit
  still_by images next (Some reason.Load) calm = named_load_still images s false fit
  still_by images next (Some reason.Reinit) calm = alone_still s (reinit_planned (setting_of s)) (reinit_none (setting_of s))
  still_by images next (Some reason.Delete) calm = alone_still s (delete_planned (setting_of s)) (delete_none (setting_of s))
  still_by images next (Some reason.Tidy) calm = refused_still (tidy_planned (setting_of s) next) calm
  still_by images next (Some reason.Clear) calm = alone_still s (clear_planned (setting_of s)) (clear_none (setting_of s))
  still_by images next (Some reason.Insert) calm = insertion_still s
  still_by images next (Some reason.InsertCopy) calm = copy_still s fit
  still_by images next (Some reason.Instantiate) calm = alone_still s (instantiation_planned (setting_of s)) (instantiation_calm (setting_of s))
  still_by images next other calm = tt

  pub os_module_both : (images : List Entry) (x : Bool) (next number : ℕ) → begins_tidy s next ≡ false
      → KeepsBoth s.store (os_module_called images s x next number).now.store
  os_module_both images x next number calm =
      os_module_has s has (KeepsBoth s.store) (IsPlannedStill s) both_over images x next number
      (still_by images next (module_reason (register_of s.cpu 0)) calm)

  -- a module that is loaded from outside
  pub loaded_both : (images : List Entry) (x : Bool) (next : ℕ) (text : List ℕ)
      → KeepsBoth s.store (outcome_of_planned s x next false (bind (ok_or (host_string text) BadString) (λ words. load_planned images s words false))).now.store
  loaded_both images x next text =
      begun_has s has (KeepsBoth s.store) (IsPlannedStill s) both_over x next false
      (bind (ok_or (host_string text) BadString) (λ words. load_planned images s words false))
      (bound_any (IsFitPlanned s) (ok_or (host_string text) BadString) (λ words. load_planned images s words false)
      (λ words. load_made images s words false fit))
      (bound_any (IsPlannedStill s) (ok_or (host_string text) BadString) (λ words. load_planned images s words false)
      (λ words. load_still images s words false fit))
