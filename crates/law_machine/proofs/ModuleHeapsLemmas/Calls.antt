-- Calls on modules, loads, and steps in which module code comes back, forget what is given up.
use Rattle.profile.specs.MemoryMap.{module_area_start}
use Rattle.std.proofs.Common.{ℕ, ◌*◌, ◌≡◌, ◌≢◌, ◌∙◌, ◌&&◌, Bool, true, false, List, [], ◌∷◌, is_ok, Option, Some, None, Result, Ok, Err, refl, sym, ap, subst, inl, inr}
use Rattle.std.specs.Prelude.{◌↔◌, IfOk, ok_or}
use Rattle.std.proofs.lemmas.Bool.{false≢true, true≢false}
use Rattle.profile.specs.Outcome.{bind}
use Rattle.profile.specs.Reasons.{module_reason}
use Rattle.profile.specs.ErrorNumber.{ErrorNumber}
use Rattle.profile.specs.ErrorNumber.TheVariants.{BadString}
use Rattle.profile.specs.declared.reason.ModuleReason.{ModuleReason}
use Rattle.profile.specs.declared.reason.ModuleReason.TheVariants as reason
use Rattle.profile.specs.declared.swi.SwiName.TheVariants as swi
use Rattle.arm_core.specs.State.{State, register_of, with_register}
use Rattle.profile.specs.images.Entries.{Entry}
use Rattle.os_heap_words.specs.lists.Heap.{HeapList}
use Rattle.os_heap.specs.Store.{Store, find_heap}
use Rattle.dynamic_areas.specs.Ground.{AreaStore, IsAreaStore}
use Rattle.rma.specs.Calls.{rma_claimed, rma_extended, rma_freed}
use Rattle.instances.proofs.GoingOn.{bound as bound_any}
use Rattle.instances.specs.Reading.{instance_info}
use Rattle.instances.specs.module_state.ModuleState.{ModuleState}
use Rattle.instances_table.specs.declared.plans.action.PlanAction.{PlanAction}
use Rattle.instances_table.specs.declared.plans.action.PlanAction.TheVariants as act
use Rattle.instances_table.specs.plans.Plans.{Plan, plan_after_code}
use Rattle.instances_table.specs.Changes.{preferring, modules_after_rename}
use Rattle.instances_table.specs.Modules.{Module}
use Rattle.swi_dispatch_guest.specs.Refusals.{or_error}
use Rattle.swi_dispatch_guest.specs.Strings.{string_in}
use Rattle.swi_dispatch_guest.specs.SwiDispatchAnswersWords.{host_string}
use Rattle.swi_dispatch_guest.specs.Call.{Call}
use Rattle.swi_dispatch_guest.specs.Refusal.TheVariants as refusal
use Rattle.swi_dispatch_guest.specs.Trials.{module_state_carried}
use Rattle.swi_dispatch_guest.specs.SwiDispatchPlansCalls.{result_of_module_call as area_called, module_called_for as area_called_for}
use Rattle.swi_dispatch_guest.specs.Naming.{instance_found, instance_preferred, instance_renamed, place_asked, with_shown}
use Rattle.swi_dispatch_guest.specs.ImagePlans.{instantiation_planned}
use Rattle.swi_dispatch_guest.specs.ModulePlans.{clear_planned, delete_planned, reinit_planned, tidy_planned}
use Rattle.swi_dispatch_guest.specs.Additions.{Planned, copy_planned, insertion_planned, load_planned, named_load_planned, plan_alone}
use Rattle.swi_dispatch_guest.specs.Answers.{went_on}
use Rattle.swi_dispatch_guest.specs.Calls.{call_answer, on_module_state}
use Rattle.swi_dispatch_guest.specs.Gates.{carried_on, come_back, outcome_left, outcome_of_gate}
use Rattle.swi_dispatch_guest.specs.MachineState.{MachineState, StepOutcome, machine_area_store, machine_module_state, setting_of, with_module_state}
use Rattle.swi_dispatch_guest.specs.Moves.{machine_with_words}
use Rattle.swi_dispatch_guest.specs.Returns.{gone_back}
use Rattle.swi_dispatch_guest.specs.Step.{call_of, call_refused, module_loaded, os_module_called, os_module_called_for, outcome_of_answer, outcome_of_planned, unless_halted}
use Rattle.swi_dispatch_guest.specs.declared.halt.Halt.{Halt}
use Rattle.law_machine.proofs.HeapFrameLemmas.AreaForgetting.{area_calls_forget}
use Rattle.law_machine.proofs.HeapFrameLemmas.BlockCalls.{block_calls_keep}
use Rattle.law_machine.proofs.HeapFrameLemmas.ModuleArea.{OnAreaStore}
use Rattle.law_machine.specs.heap_frame.BlockLaws.{HaveNoSlide, StayLive}
use Rattle.law_machine.specs.heap_frame.Fits.{IsFitStore}
use Rattle.law_machine.specs.heap_frame.GuestLaws.{HasGuestHeap}
use Rattle.law_machine.specs.heap_frame.PlanLaws.{IsFitModuleState}
use Rattle.law_machine.proofs.HeapAloneLemmas.ModuleHosts.{IsHost, fit_module_state}
use Rattle.law_machine.proofs.HeapAloneLemmas.ModuleLaws.{IsAsked, asked, host}
use Rattle.law_machine.proofs.HeapAloneLemmas.ModulePlans.{IsFitPlan}
use Rattle.law_machine.proofs.HeapAloneLemmas.PlansMade.{IsFitPlanned, load_made}
use Rattle.law_machine.proofs.LiveBytesLemmas.Gates.{Goes, gate_has}
use Rattle.law_machine.proofs.LiveBytesLemmas.ModuleCalls.{HoldsOver, Planning, os_module_has, plan_by}
use Rattle.law_machine.proofs.LiveBytesLemmas.Planned.{IsPlannedStill, NeverSlides, alone_still, clear_none, copy_still, delete_none, insertion_still, instantiation_calm, load_still, named_load_still, reinit_none}
use Rattle.law_machine.specs.live_bytes.Changes.{begins_tidy, has_slide, is_tidy, slides_on}
use Rattle.law_machine.specs.module_heaps.GivenUp.{ExtendsForgetCut, ForgetsGivenUp, GatesForgetGivenUp, IsCutOff, LoadsForgetGivenUp, ModuleCallsForgetGivenUp, is_extend}
use Rattle.law_machine.proofs.ModuleHeapsLemmas.Asking.{carried_heaps, elsewhere, error_heaps, guest_of, opened_heaps, shown_both_ways}
use Rattle.law_machine.proofs.ModuleHeapsLemmas.Carrying.{freed_gives, plan_gives}
use Rattle.law_machine.proofs.ModuleHeapsLemmas.Giving.{GivesUp, IsShown, gives_both, same_gives}
use Rattle.law_machine.proofs.ModuleHeapsLemmas.Near.{was_live}
use Rattle.law_machine.proofs.ModuleHeapsLemmas.Planning.{FindsPlanned, alone_finds, claimed_finds, copy_finds, insertion_finds, load_finds, named_load_finds}

-- plans that have no slide
slides_none : (actions : List PlanAction) → HaveNoSlide actions → has_slide actions ≡ false
slides_none [] none = refl
slides_none (act.Slide ∷ actions) none = absurd none
slides_none (act.Finalise slot fatal ∷ actions) none = slides_none actions none
slides_none (act.Remove slot ∷ actions) none = slides_none actions none
slides_none (act.FreePrivate slot ∷ actions) none = slides_none actions none
slides_none (act.Insert slot ∷ actions) none = slides_none actions none
slides_none (act.Instantiate slot ∷ actions) none = slides_none actions none
slides_none (act.GiveUp ∷ actions) none = slides_none actions none
slides_none (act.Initialise slot ∷ actions) none = slides_none actions none

-- what is so under a condition
under : {A E : Type 0} (b : Bool) (R : A → Type 0) (r : Result A E) → (b ≡ false → IfOk r R) → IfOk r (λ (a : A). b ≡ false → R a)
under b R (Ok a) each = each
under b R (Err e) each = tt

carried_gives : (k : HeapList) (other : k.start ≢ module_area_start) (t : MachineState) (call : Call) (p : Plan) → IsFitModuleState (machine_module_state t) → IsFitPlan p
    → has_slide p.actions ≡ false → GivesUp k t.store (carried_on t call p).store
carried_gives k other t call p fit plan none =
    let w : ModuleState = (module_state_carried (machine_module_state t) p).module_state in
    gives_both k t.store w.area_store.store (carried_on t call p).store (plan_gives k other (machine_module_state t) p fit plan.below plan.text none)
    (same_gives k w.area_store.store (carried_on t call p).store (carried_heaps t call p))

-- a claim, and then a plan
claimed_then : (limit : ℕ) (e : AreaStore) (k : HeapList) (u t : Store) → HasGuestHeap e k → IsFitStore limit u → StayLive e.store u → find_heap k.start u.heaps ≡ Some k
    → GivesUp k u t → IsShown k e.store t
claimed_then limit e k u t guest fit stay found gives = elim (gives.reported found) [
  | inl stays ↦ inl (record {
    found = stays.found;
    blocks = λ block total live inside. stays.blocks block total (stay block total live).0 inside;
  })
  | inr goes ↦ inr (record {
    none = goes.none;
    given = record {
      block = goes.given.block;
      total = goes.given.total;
      live = was_live limit e k u guest fit stay goes.given.block goes.given.total goes.given.live goes.given.inside;
      gone = goes.given.gone;
      inside = goes.given.inside;
    };
  })
]

module _ (s : MachineState) (k : HeapList) (here : IsHost s k) where
  abbrev why : Option ModuleReason
  why = module_reason (register_of s.cpu 0)

  abbrev Reported : Store → Type 0
  Reported t = IsShown k s.store t

  away : k.start ≢ module_area_start
  away = elsewhere s k here

  fit : IsFitModuleState (machine_module_state s)
  fit = fit_module_state s here.modules

  good : IsAreaStore (machine_area_store s)
  good = here.modules.store.area_store

  same_shown : (t : Store) → t.heaps ≡ s.store.heaps → Reported t
  same_shown t same = (same_gives k s.store t same).reported here.found

  -- what is planned
  record IsPlannedWell (w : Planned) : Type 0 where
    still : IsPlannedStill s w
    finds : FindsPlanned k away w

  well : (r : Result Planned ErrorNumber) → IfOk r (IsPlannedStill s) → IfOk r (FindsPlanned k away) → IfOk r IsPlannedWell
  well (Ok w) still finds = record { still = still; finds = finds }
  well (Err e) still finds = tt

  alone_well : (r : Result Plan ErrorNumber) → IfOk r NeverSlides → IfOk (bind r (λ p. Ok (plan_alone s p))) IsPlannedWell
  alone_well r none = well (bind r (λ p. Ok (plan_alone s p))) (alone_still s r none) (alone_finds k away s good fit.area_store here.found r)

  refused_well : (r : Result Plan ErrorNumber) → is_ok r ≡ false → IfOk (bind r (λ p. Ok (plan_alone s p))) IsPlannedWell
  refused_well (Ok p) refused = absurd (true≢false refused)
  refused_well (Err e) refused = tt

  planned_well : (images : List Entry) (next : ℕ) (r : Option ModuleReason) → (is_tidy r && is_ok (tidy_planned (setting_of s) next)) ≡ false
      → Planning IsPlannedWell (plan_by images s next r)
  planned_well images next (Some reason.Run) calm =
      well (named_load_planned images s true) (named_load_still images s true fit) (named_load_finds k away s good fit.area_store here.found images true)
  planned_well images next (Some reason.Load) calm =
      well (named_load_planned images s false) (named_load_still images s false fit) (named_load_finds k away s good fit.area_store here.found images false)
  planned_well images next (Some reason.Reinit) calm = alone_well (reinit_planned (setting_of s)) (reinit_none (setting_of s))
  planned_well images next (Some reason.Delete) calm = alone_well (delete_planned (setting_of s)) (delete_none (setting_of s))
  planned_well images next (Some reason.Tidy) calm = refused_well (tidy_planned (setting_of s) next) calm
  planned_well images next (Some reason.Clear) calm = alone_well (clear_planned (setting_of s)) (clear_none (setting_of s))
  planned_well images next (Some reason.Insert) calm = well (insertion_planned s) (insertion_still s) (insertion_finds k away s good fit.area_store here.found)
  planned_well images next (Some reason.InsertCopy) calm = well (copy_planned s) (copy_still s fit) (copy_finds k away s good fit.area_store here.found)
  planned_well images next (Some reason.Instantiate) calm = alone_well (instantiation_planned (setting_of s)) (instantiation_calm (setting_of s))
  planned_well images next other calm = tt

  -- a call that is carried on
  carried_shown : (call : Call) (w : Planned) → IsFitPlanned s w → IsPlannedWell w → Reported (carried_on (with_module_state s w.module_state) call w.plan).store
  carried_shown call w made is =
      let t : MachineState = with_module_state s w.module_state in
      claimed_then (4096 * made.module_state.area_store.fit.area.pages) (machine_area_store s) k t.store (carried_on t call w.plan).store (guest_of s k here) made.module_state.area_store.fit.store
      is.still.stay is.finds
      (carried_gives k away t call w.plan (record { area_store = made.module_state.area_store.fit; slots = made.module_state.slots }) made.plan (slides_none w.plan.actions is.still.none))

  -- calls that run no module code
  abbrev LeavesShown : State × ModuleState → Type 0
  LeavesShown q = Reported q.1.area_store.store

  answered_shown : {A : Type 0} (r : Result A ErrorNumber) (f : A → State) → IfOk (bind (or_error r) (λ a. Ok (f a, machine_module_state s))) LeavesShown
  answered_shown (Ok a) f = same_shown s.store refl
  answered_shown (Err e) f = tt

  names_shown : (r : Result (List Module) ErrorNumber) → IfOk (or_error (bind r (λ modules. Ok (s.cpu, record (machine_module_state s) { modules = modules })))) LeavesShown
  names_shown (Ok modules) = same_shown s.store refl
  names_shown (Err e) = tt

  looked_shown : {A : Type 0} (r : Result A ErrorNumber) (f : A → State) → IfOk (or_error (bind r (λ a. Ok (f a, machine_module_state s)))) LeavesShown
  looked_shown (Ok a) f = same_shown s.store refl
  looked_shown (Err e) f = tt

  claim_shown : (r : Result (AreaStore × ℕ) ErrorNumber) → rma_claimed (machine_area_store s) (register_of s.cpu 3) ≡ r
      → IfOk (bind (or_error r) (λ q. Ok (with_register s.cpu 2 q.1, record (machine_module_state s) { area_store = q.0 }))) LeavesShown
  claim_shown (Ok q) is =
      let stay : StayLive s.store q.0.store = (block_calls_keep (machine_area_store s) q.0 fit.area_store).claim (register_of s.cpu 3) q.1 is in
      let found : find_heap k.start q.0.store.heaps ≡ Some k =
      claimed_finds k away (machine_area_store s) good fit.area_store here.found (register_of s.cpu 3) (Ok q) is in
      inl (record { found = found; blocks = λ block total live inside. (stay block total live).0 })
  claim_shown (Err e) is = tt

  free_by : (r : Result (AreaStore × Unit {0}) ErrorNumber) → OnAreaStore (λ x. GivesUp k s.store x.0.store) r
      → IfOk (bind (or_error r) (λ q. Ok (s.cpu, record (machine_module_state s) { area_store = q.0 }))) LeavesShown
  free_by (Ok q) gives = gives.reported here.found
  free_by (Err e) gives = tt

  renamed_shown : IfOk (instance_renamed s.cpu (machine_module_state s)) LeavesShown
  renamed_shown =
      bound_any LeavesShown (or_error (string_in s.store.bytes s.cpu 1)) _ (λ full.
      bound_any LeavesShown (or_error (string_in s.store.bytes s.cpu 2)) _ (λ new. names_shown (modules_after_rename s.tables.modules full new)))

  preferred_shown : IfOk (instance_preferred s.cpu (machine_module_state s)) LeavesShown
  preferred_shown = bound_any LeavesShown (or_error (string_in s.store.bytes s.cpu 1)) _ (λ full. names_shown (preferring s.tables.modules full))

  found_shown : IfOk (instance_found s.cpu (machine_module_state s)) LeavesShown
  found_shown = bound_any LeavesShown (or_error (string_in s.store.bytes s.cpu 1)) _ (λ full. looked_shown _ _)

  shown_for : (r : Option ModuleReason) → is_extend r ≡ false → IfOk (area_called_for s.cpu (machine_module_state s) r) LeavesShown
  shown_for (Some reason.DescribeArea) other = same_shown s.store refl
  shown_for (Some reason.Claim) other = claim_shown (rma_claimed (machine_area_store s) (register_of s.cpu 3)) refl
  shown_for (Some reason.Free) other =
      free_by (rma_freed (machine_area_store s) (register_of s.cpu 2)) (freed_gives k away (machine_area_store s) (register_of s.cpu 2) fit.area_store)
  shown_for (Some reason.Info) other = answered_shown (instance_info s.store.bytes.at s.tables.modules (place_asked s.cpu)) (with_shown s.cpu)
  shown_for (Some reason.Extend) other = absurd (true≢false other)
  shown_for (Some reason.Rename) other = renamed_shown
  shown_for (Some reason.Prefer) other = preferred_shown
  shown_for (Some reason.Lookup) other = found_shown
  shown_for (Some reason.Run) other = tt
  shown_for (Some reason.Load) other = tt
  shown_for (Some reason.Enter) other = tt
  shown_for (Some reason.Reinit) other = tt
  shown_for (Some reason.Delete) other = tt
  shown_for (Some reason.Tidy) other = tt
  shown_for (Some reason.Clear) other = tt
  shown_for (Some reason.Insert) other = tt
  shown_for (Some reason.InsertCopy) other = tt
  shown_for (Some reason.Instantiate) other = tt
  shown_for None other = tt

  area_shown : is_extend why ≡ false → IfOk (area_called s.cpu (machine_module_state s)) LeavesShown
  unfolding area_called
  area_shown other = shown_for why other

  abbrev ShownUnless : Store → Type 0
  ShownUnless t = is_extend (module_reason (register_of s.cpu 0)) ≡ false → IsShown k s.store t

  shown_over : HoldsOver s ShownUnless IsPlannedWell
  shown_over = record {
    same = λ other. same_shown s.store refl;
    error = λ e other. same_shown _ (error_heaps s e);
    area = under (is_extend why) LeavesShown (area_called s.cpu (machine_module_state s)) area_shown;
    carried = λ call w made is other. carried_shown call w made is;
    opened = λ next o few other. same_shown _ (opened_heaps (gone_back s.cpu.psr s false next) o.text.items o.start.slot o.start.at);
  }

  pub called_shown : (images : List Entry) (x : Bool) (next number : ℕ) → is_extend (module_reason (register_of s.cpu 0)) ≡ false → begins_tidy s next ≡ false
      → IsShown k s.store (os_module_called images s x next number).now.store
  called_shown images x next number other calm =
      os_module_has s here.modules ShownUnless IsPlannedWell shown_over images x next number (planned_well images next why calm) other

  -- a load from outside
  refused_shown : (x : Bool) (next : ℕ) (e : ErrorNumber) → Reported (call_refused s x next e).now.store
  refused_shown true next e = same_shown _ (error_heaps s (refusal.System e))
  refused_shown false next e = same_shown s.store refl

  begun_shown : (x : Bool) (next : ℕ) (r : Result Planned ErrorNumber) → IfOk r (IsFitPlanned s) → IfOk r IsPlannedWell
      → Reported (outcome_of_planned s x next false r).now.store
  unfolding outcome_of_planned
  begun_shown x next (Err e) made is = refused_shown x next e
  begun_shown x next (Ok w) made is = carried_shown (call_of s x next false) w made is

  pub loaded_shown : (images : List Entry) (x : Bool) (next : ℕ) (text : List ℕ)
      → IsShown k s.store (outcome_of_planned s x next false (bind (ok_or (host_string text) BadString) (λ words. load_planned images s words false))).now.store
  loaded_shown images x next text =
      begun_shown x next (bind (ok_or (host_string text) BadString) (λ words. load_planned images s words false))
      (bound_any (IsFitPlanned s) (ok_or (host_string text) BadString) (λ words. load_planned images s words false)
      (λ words. load_made images s words false fit))
      (bound_any IsPlannedWell (ok_or (host_string text) BadString) (λ words. load_planned images s words false)
      (λ words. well (load_planned images s words false) (load_still images s words false fit) (load_finds k away s good fit.area_store here.found images words false)))

  -- a step in which module code comes back
  goes_shown : (o : Option Plan) → slides_on s.cpu o ≡ false → Goes s here.modules (IsShown k s.store) (same_shown s.store refl) o
  goes_shown None calm = tt
  goes_shown (Some p) calm = λ f plan.
      (carried_gives k away (come_back s f) f.call (plan_after_code p (outcome_left s.cpu)) fit plan calm).reported here.found

  pub gate_shown : slides_on s.cpu s.tables.plan ≡ false → IsShown k s.store (outcome_of_gate s).now.store
  gate_shown calm = gate_has s here.modules (IsShown k s.store) (same_shown s.store refl) (goes_shown s.tables.plan calm)

  -- a change of a block's size
  abbrev Cut : StepOutcome → Type 0
  Cut o = (find_heap k.start o.now.store.heaps ≡ None) ↔ IsCutOff s k.start

  kept_cut : (o : StepOutcome) (e : ErrorNumber) → o.now.store.heaps ≡ s.store.heaps
      → rma_extended (machine_area_store s) (register_of s.cpu 2) (register_of s.cpu 3) ≡ Err e → Cut o
  kept_cut o e same is = (
    λ none. absurd (let other : None ≡ Some k = sym none ∙ ap (find_heap k.start) same ∙ here.found in cc),
    λ cut. absurd (false≢true (sym (ap (λ (r : Result (AreaStore × ℕ) ErrorNumber). is_ok r) is) ∙ cut.done)),
  )

  cut_by : (x : Bool) (next : ℕ) (r : Result (AreaStore × ℕ) ErrorNumber) → rma_extended (machine_area_store s) (register_of s.cpu 2) (register_of s.cpu 3) ≡ r
      → Cut (outcome_of_answer s x (went_on s next (on_module_state s (bind (or_error r) (λ q. Ok (with_register s.cpu 2 q.1, record (machine_module_state s) { area_store = q.0 }))))))
  cut_by x next (Ok q) is =
      let reported = (area_calls_forget (machine_area_store s) q.0 k good here.found).extend (register_of s.cpu 2) (register_of s.cpu 3) q.1 is in (
        λ none. record { done = ap (λ (r : Result (AreaStore × ℕ) ErrorNumber). is_ok r) is; forgotten = reported.0 none },
        λ cut. reported.1 cut.forgotten,
      )
  cut_by true next (Err e) is =
      kept_cut (outcome_of_answer s true (went_on s next (on_module_state s (bind (or_error (Err e)) (λ (q : AreaStore × ℕ). Ok (with_register s.cpu 2 q.1, record (machine_module_state s) { area_store = q.0 })))))) e
      (error_heaps s (refusal.System e)) is
  cut_by false next (Err e) is =
      kept_cut (outcome_of_answer s false (went_on s next (on_module_state s (bind (or_error (Err e)) (λ (q : AreaStore × ℕ). Ok (with_register s.cpu 2 q.1, record (machine_module_state s) { area_store = q.0 })))))) e
      refl is

  module _ (images : List Entry) (x : Bool) (next number : ℕ) (extends : module_reason (register_of s.cpu 0) ≡ Some reason.Extend) where
    area_cut : Cut (outcome_of_answer s x (went_on s next (on_module_state s (area_called s.cpu (machine_module_state s)))))
    unfolding area_called
    area_cut =
        subst (λ (o : Option ModuleReason). Cut (outcome_of_answer s x (went_on s next (on_module_state s (area_called_for s.cpu (machine_module_state s) o))))) (sym extends)
        (cut_by x next (rma_extended (machine_area_store s) (register_of s.cpu 2) (register_of s.cpu 3)) refl)

    answer_cut : Cut (outcome_of_answer s x (call_answer s next number (Some swi.Module)))
    unfolding call_answer
    answer_cut = area_cut

    pub called_cut : (find_heap k.start (os_module_called images s x next number).now.store.heaps ≡ None) ↔ IsCutOff s k.start
    unfolding os_module_called
    called_cut = subst (λ (o : Option ModuleReason). Cut (os_module_called_for images s x next number o)) (sym extends) answer_cut

-- the laws
pub calls_forget_given : ModuleCallsForgetGivenUp
calls_forget_given images s k words x next number has other calm =
    let u : MachineState = machine_with_words s words in
    let a : IsAsked s k words = asked s k words has in
    subst (λ (t : Store). ForgetsGivenUp k t (os_module_called images u x next number).now.store) a.stays
    (shown_both_ways k u.store (os_module_called images u x next number).now.store (called_shown u k a.host images x next number other calm))

pub extends_forget_cut : ExtendsForgetCut
extends_forget_cut images s k words x next number has extends =
    called_cut (machine_with_words s words) k (asked s k words has).host images x next number extends

loaded_unhalted : (s : MachineState) (k : HeapList) (o : Option Halt) (a : StepOutcome) → o ≡ None → ForgetsGivenUp k s.store a.now.store
    → ForgetsGivenUp k s.store (unless_halted s o a).now.store
loaded_unhalted s k None a goes reported = reported
loaded_unhalted s k (Some h) a goes reported = absurd (cc)

pub loads_forget_given : LoadsForgetGivenUp
unfolding module_loaded
loads_forget_given images s k text has =
    let a : StepOutcome = outcome_of_planned s true s.cpu.pc false (bind (ok_or (host_string text) BadString) (λ words. load_planned images s words false)) in
    loaded_unhalted s k s.halt a has.goes (shown_both_ways k s.store a.now.store (loaded_shown s k (host s k has) images true s.cpu.pc text))

pub gates_forget_given : GatesForgetGivenUp
gates_forget_given s k has calm =
    shown_both_ways k s.store (outcome_of_gate s).now.store (gate_shown s k (host s k has) calm)
