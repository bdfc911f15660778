-- Calls on modules, and steps in which module code comes back, that give no block back forget no
-- heap.
use Rattle.std.proofs.Common.{ℕ, ◌≡◌, ◌++◌, ◌∙◌, Bool, true, false, List, [], ◌∷◌, is_some, Option, Some, None, Result, Ok, Err, refl, sym, ap, subst}
use Rattle.std.specs.Prelude.{IfOk}
use Rattle.std.specs.List.{list_any}
use Rattle.std.proofs.lemmas.Bool.{false≢true, or_parts}
use Rattle.profile.specs.Outcome.{bind}
use Rattle.profile.specs.Reasons.{module_reason}
use Rattle.profile.specs.ErrorNumber.{ErrorNumber}
use Rattle.profile.specs.declared.reason.ModuleReason.{ModuleReason}
use Rattle.profile.specs.declared.reason.ModuleReason.TheVariants as reason
use Rattle.arm_core.specs.State.{State, register_of, with_register}
use Rattle.profile.specs.images.Entries.{Entry}
use Rattle.os_heap_words.specs.lists.Heap.{HeapList}
use Rattle.os_heap.proofs.Found.{found_start}
use Rattle.os_heap.specs.Store.{Store, find_heap}
use Rattle.dynamic_areas.specs.Ground.{AreaStore}
use Rattle.rma.specs.Calls.{rma_claimed}
use Rattle.instances.proofs.GoingOn.{bound as bound_any}
use Rattle.instances.specs.Reading.{instance_info}
use Rattle.instances.specs.actions.Actions.{code_of, module_state_after_action}
use Rattle.instances.specs.tidying.Slid.{module_state_slid}
use Rattle.instances.specs.Turns.{module_doing}
use Rattle.instances.specs.module_state.ModuleState.{ModuleState}
use Rattle.instances_table.specs.declared.plans.action.PlanAction.{PlanAction}
use Rattle.instances_table.specs.declared.plans.action.PlanAction.TheVariants as act
use Rattle.instances_table.specs.declared.plans.code.Code.{Code}
use Rattle.instances_table.specs.plans.Calls.{finalise_all, initialise_all}
use Rattle.instances_table.specs.plans.Carrying.{carry_of_plan, carried_by, carried_from}
use Rattle.instances_table.specs.plans.Plans.{Plan, actions_owed, plan_after_code}
use Rattle.instances_table.specs.Changes.{preferring, modules_after_rename}
use Rattle.instances_table.specs.Modules.{Module, slots_of}
use Rattle.swi_dispatch_guest.specs.Refusals.{or_error}
use Rattle.swi_dispatch_guest.specs.Strings.{string_in}
use Rattle.swi_dispatch_guest.specs.Call.{Call}
use Rattle.swi_dispatch_guest.specs.Refusal.{Refusal}
use Rattle.swi_dispatch_guest.specs.SwiDispatchPlansCalls.{result_of_module_call as area_called, module_called_for as area_called_for}
use Rattle.swi_dispatch_guest.specs.Naming.{place_asked, with_shown}
use Rattle.swi_dispatch_guest.specs.ModulePlans.{may_begin_alone, tidy_planned}
use Rattle.swi_dispatch_guest.specs.PlannerInput.{PlannerInput}
use Rattle.swi_dispatch_guest.specs.Additions.{Planned, plan_alone}
use Rattle.swi_dispatch_guest.specs.Errors.{with_error}
use Rattle.swi_dispatch_guest.specs.Gates.{carried_on, come_back, outcome_left, outcome_of_gate}
use Rattle.swi_dispatch_guest.specs.MachineState.{MachineState, machine_area_store, machine_module_state, setting_of, with_module_state}
use Rattle.swi_dispatch_guest.specs.ModuleStart.{opened_at}
use Rattle.swi_dispatch_guest.specs.Moves.{machine_with_words}
use Rattle.swi_dispatch_guest.specs.Returns.{gone_back}
use Rattle.swi_dispatch_guest.specs.Step.{os_module_called}
use Rattle.law_machine.specs.heap_calls.Laws.{IsNotForgotten}
use Rattle.law_machine.proofs.HeapFrameLemmas.PlanForgetting.{acts_forget_none}
use Rattle.law_machine.specs.heap_frame.ForgettingLaws.{gives_back}
use Rattle.law_machine.specs.heap_frame.PlanLaws.{IsFitModuleState}
use Rattle.law_machine.proofs.HeapAloneLemmas.ModuleHosts.{IsHost, fit_module_state}
use Rattle.law_machine.proofs.HeapAloneLemmas.ModuleLaws.{asked, host}
use Rattle.law_machine.proofs.LiveBytesLemmas.Gates.{Goes, gate_has}
use Rattle.law_machine.proofs.LiveBytesLemmas.ModuleCalls.{HoldsOver, Planning, os_module_has, plan_by}
use Rattle.law_machine.specs.module_heaps.GivenUp.{CallsForgetNone, GatesForgetNone, gives_back_on, gives_nothing}
use Rattle.law_machine.proofs.ModuleHeapsLemmas.Asking.{carried_heaps, elsewhere, error_heaps, opened_heaps}
use Rattle.law_machine.proofs.ModuleHeapsLemmas.Planning.{claimed_finds}

abbrev GivesNone : List PlanAction → Type 0
GivesNone actions = list_any gives_back actions ≡ false

-- actions that give no block back
module _ (start : ℕ) where
  abbrev There : ModuleState → Type 0
  There w = IsNotForgotten w.area_store.store start

  act_keeps : (w : ModuleState) (p : Plan) (a : PlanAction) → gives_back a ≡ false → There w → There (module_state_after_action module_state_slid p.given w a)
  act_keeps w p a keeps there = by (find_heap start w.area_store.store.heaps) refl there where
    by : (o : Option HeapList) → find_heap start w.area_store.store.heaps ≡ o → is_some o ≡ true → There (module_state_after_action module_state_slid p.given w a)
    by None is some = absurd (false≢true some)
    by (Some g) is some =
        let at : g.start ≡ start = found_start start w.area_store.store.heaps g is in
        let own : find_heap g.start w.area_store.store.heaps ≡ Some g = subst (λ (q : ℕ). find_heap q w.area_store.store.heaps ≡ Some g) (sym at) is in
        subst (λ (q : ℕ). IsNotForgotten (module_state_after_action module_state_slid p.given w a).area_store.store q) at (acts_forget_none w p.given a g keeps own)

  code_keeps : (w : ModuleState) (p : Plan) (a : PlanAction) (actions : List PlanAction) (o : Option Code) → gives_back a ≡ false → There w
      → ((v : ModuleState) (q : Plan) → There v → There (carried_from module_doing actions v q).module_state)
      → There (carried_by module_doing w p a actions o (carried_from module_doing actions)).module_state
  code_keeps w p a actions (Some code) keeps there on = act_keeps w p a keeps there
  code_keeps w p a actions None keeps there on =
      on (module_state_after_action module_state_slid p.given w a) (record p { actions = actions; instead = actions_owed p.instead a; runs = false }) (act_keeps w p a keeps there)

  actions_keep : (actions : List PlanAction) → GivesNone actions → (w : ModuleState) (p : Plan) → There w → There (carried_from module_doing actions w p).module_state
  actions_keep [] none w p there = there
  actions_keep (a ∷ actions) none w p there =
      let parts = or_parts (gives_back a) (list_any gives_back actions) none in
      code_keeps w p a actions (code_of w a) parts.0 there (actions_keep actions parts.1)

  plan_keeps : (w : ModuleState) (p : Plan) → GivesNone p.actions → There w → There (carry_of_plan module_doing w p).module_state
  unfolding carry_of_plan
  plan_keeps w p none there = actions_keep p.actions none w p there

  pub carried_keeps : (s : MachineState) (call : Call) (p : Plan) → GivesNone p.actions → IsNotForgotten s.store start
      → IsNotForgotten (carried_on s call p).store start
  carried_keeps s call p none there =
      ap (λ (hs : List HeapList). is_some (find_heap start hs)) (carried_heaps s call p) ∙ plan_keeps (machine_module_state s) p none there

-- a tidy gives none back as it begins
begun_none : (slots : List ℕ) → GivesNone (initialise_all slots)
begun_none [] = refl
begun_none (slot ∷ slots) = begun_none slots

tidied_none : (slots others : List ℕ) → GivesNone (finalise_all slots ++ act.Slide ∷ initialise_all others)
tidied_none [] others = begun_none others
tidied_none (slot ∷ slots) others = tidied_none slots others

tidy_none : (st : PlannerInput) (next : ℕ) → IfOk (tidy_planned st next) (λ (p : Plan). GivesNone p.actions)
unfolding tidy_planned
tidy_none st next = bound_any (λ (p : Plan). GivesNone p.actions) (may_begin_alone st) _ (λ u. tidied_none (slots_of st.module_state.modules) (slots_of st.module_state.modules))

module _ (s : MachineState) (k : HeapList) (here : IsHost s k) where
  abbrev silent_reason : Bool
  silent_reason = gives_nothing (module_reason (register_of s.cpu 0))

  abbrev Found : Store → Type 0
  Found t = IsNotForgotten t k.start

  found_now : Found s.store
  found_now = ap (λ (o : Option HeapList). is_some o) here.found

  kept_found : (t : Store) → t.heaps ≡ s.store.heaps → Found t
  kept_found t same = ap (λ (hs : List HeapList). is_some (find_heap k.start hs)) same ∙ found_now

  -- calls that run no module code
  abbrev LeavesFound : State × ModuleState → Type 0
  LeavesFound q = Found q.1.area_store.store

  shown_found : {A : Type 0} (r : Result A ErrorNumber) (f : A → State) → IfOk (bind (or_error r) (λ a. Ok (f a, machine_module_state s))) LeavesFound
  shown_found (Ok a) f = found_now
  shown_found (Err e) f = tt

  listed_found : (r : Result (List Module) ErrorNumber) → IfOk (or_error (bind r (λ modules. Ok (s.cpu, record (machine_module_state s) { modules = modules })))) LeavesFound
  listed_found (Ok modules) = found_now
  listed_found (Err e) = tt

  looked_found : {A : Type 0} (r : Result A ErrorNumber) (f : A → State) → IfOk (or_error (bind r (λ a. Ok (f a, machine_module_state s)))) LeavesFound
  looked_found (Ok a) f = found_now
  looked_found (Err e) f = tt

  claim_found : (r : Result (AreaStore × ℕ) ErrorNumber) → rma_claimed (machine_area_store s) (register_of s.cpu 3) ≡ r
      → IfOk (bind (or_error r) (λ q. Ok (with_register s.cpu 2 q.1, record (machine_module_state s) { area_store = q.0 }))) LeavesFound
  claim_found (Ok q) is =
      let fit : IsFitModuleState (machine_module_state s) = fit_module_state s here.modules in
      ap (λ (o : Option HeapList). is_some o)
      (claimed_finds k (elsewhere s k here) (machine_area_store s) here.modules.store.area_store fit.area_store here.found (register_of s.cpu 3) (Ok q) is)
  claim_found (Err e) is = tt

  found_for : (r : Option ModuleReason) → gives_nothing r ≡ true → IfOk (area_called_for s.cpu (machine_module_state s) r) LeavesFound
  found_for (Some reason.DescribeArea) none = found_now
  found_for (Some reason.Claim) none = claim_found (rma_claimed (machine_area_store s) (register_of s.cpu 3)) refl
  found_for (Some reason.Info) none = shown_found (instance_info s.store.bytes.at s.tables.modules (place_asked s.cpu)) (with_shown s.cpu)
  found_for (Some reason.Rename) none =
      bound_any LeavesFound (or_error (string_in s.store.bytes s.cpu 1)) _ (λ full.
      bound_any LeavesFound (or_error (string_in s.store.bytes s.cpu 2)) _ (λ new. listed_found (modules_after_rename s.tables.modules full new)))
  found_for (Some reason.Prefer) none =
      bound_any LeavesFound (or_error (string_in s.store.bytes s.cpu 1)) _ (λ full. listed_found (preferring s.tables.modules full))
  found_for (Some reason.Lookup) none = bound_any LeavesFound (or_error (string_in s.store.bytes s.cpu 1)) _ (λ full. looked_found _ _)
  found_for (Some reason.Enter) none = tt
  found_for (Some reason.Tidy) none = tt
  found_for other none = absurd (false≢true none)

  area_found : silent_reason ≡ true → IfOk (area_called s.cpu (machine_module_state s)) LeavesFound
  unfolding area_called
  area_found none = found_for (module_reason (register_of s.cpu 0)) none

  abbrev FoundIf : Store → Type 0
  FoundIf t = gives_nothing (module_reason (register_of s.cpu 0)) ≡ true → IsNotForgotten t k.start

  abbrev SilentIf : Planned → Type 0
  SilentIf w = gives_nothing (module_reason (register_of s.cpu 0)) ≡ true → GivesNone w.plan.actions × Found w.module_state.area_store.store

  where_silent : (b : Bool) (r : Result (State × ModuleState) Refusal) → (b ≡ true → IfOk r LeavesFound) → IfOk r (λ q. b ≡ true → LeavesFound q)
  where_silent b (Ok q) each = each
  where_silent b (Err e) each = tt

  silent_over : HoldsOver s FoundIf SilentIf
  silent_over = record {
    same = λ none. found_now;
    error = λ e none. kept_found (with_error s e).store (error_heaps s e);
    area = where_silent silent_reason (area_called s.cpu (machine_module_state s)) area_found;
    carried = λ call w made silent none. carried_keeps k.start (with_module_state s w.module_state) call w.plan (silent none).0 (silent none).1;
    opened = λ next o few none. kept_found (opened_at (gone_back s.cpu.psr s false next) o.text.items o.start.slot o.start.at).store (opened_heaps (gone_back s.cpu.psr s false next) o.text.items o.start.slot o.start.at);
  }

  -- what is planned: by a tidy, or by a call that may give a block back
  never : (r : Result Planned ErrorNumber) → false ≡ silent_reason → IfOk r SilentIf
  never (Ok w) other = λ none. absurd (false≢true (other ∙ none))
  never (Err e) other = tt

  tidy_silent : (r : Result Plan ErrorNumber) → IfOk r (λ (p : Plan). GivesNone p.actions) → IfOk (bind r (λ p. Ok (plan_alone s p))) SilentIf
  tidy_silent (Ok p) none = λ silent. (none, found_now)
  tidy_silent (Err e) none = tt

  silent_by : (images : List Entry) (next : ℕ) (r : Option ModuleReason) → gives_nothing r ≡ silent_reason → Planning SilentIf (plan_by images s next r)
  silent_by images next (Some reason.Run) is = never _ is
  silent_by images next (Some reason.Load) is = never _ is
  silent_by images next (Some reason.Reinit) is = never _ is
  silent_by images next (Some reason.Delete) is = never _ is
  silent_by images next (Some reason.Tidy) is = tidy_silent (tidy_planned (setting_of s) next) (tidy_none (setting_of s) next)
  silent_by images next (Some reason.Clear) is = never _ is
  silent_by images next (Some reason.Insert) is = never _ is
  silent_by images next (Some reason.InsertCopy) is = never _ is
  silent_by images next (Some reason.Instantiate) is = never _ is
  silent_by images next other is = tt

  pub called_silent : (images : List Entry) (x : Bool) (next number : ℕ) → gives_nothing (module_reason (register_of s.cpu 0)) ≡ true
      → IsNotForgotten (os_module_called images s x next number).now.store k.start
  called_silent images x next number none =
      os_module_has s here.modules FoundIf SilentIf silent_over images x next number (silent_by images next (module_reason (register_of s.cpu 0)) refl) none

  -- a step in which module code comes back
  goes_silent : (o : Option Plan) → gives_back_on s.cpu o ≡ false → Goes s here.modules (λ t. IsNotForgotten t k.start) found_now o
  goes_silent None none = tt
  goes_silent (Some p) none = λ f plan. carried_keeps k.start (come_back s f) f.call (plan_after_code p (outcome_left s.cpu)) none found_now

  pub gate_silent : gives_back_on s.cpu s.tables.plan ≡ false → IsNotForgotten (outcome_of_gate s).now.store k.start
  gate_silent none = gate_has s here.modules (λ t. IsNotForgotten t k.start) found_now (goes_silent s.tables.plan none)

pub calls_forget_none : CallsForgetNone
calls_forget_none images s k words x next number has none = called_silent (machine_with_words s words) k (asked s k words has).host images x next number none

pub gates_forget_none : GatesForgetNone
gates_forget_none s k has none = gate_silent s k (host s k has) none
