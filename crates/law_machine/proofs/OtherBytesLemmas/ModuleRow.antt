-- What a call of OS_Module writes that a machine makes.
use Rattle.std.proofs.Common.{ℕ, ◌≡◌, ◌∙◌, ◌⊎◌, Bool, true, false, List, Option, Some, None, Result, Ok, Err, refl, subst, inl, inr}
use Rattle.std.specs.Prelude.{IfOk, ok_or}
use Rattle.profile.specs.Outcome.{bind}
use Rattle.profile.specs.Reasons.{module_reason}
use Rattle.profile.specs.ErrorNumber.{ErrorNumber}
use Rattle.profile.specs.ErrorNumber.TheVariants.{BadString}
use Rattle.profile.specs.declared.reason.ModuleReason.{ModuleReason}
use Rattle.profile.specs.declared.reason.ModuleReason.TheVariants as reason
use Rattle.profile.specs.declared.swi.SwiName.TheVariants as swi
use Rattle.arm_core.specs.State.{State, register_of, with_register}
use Rattle.profile.specs.images.Entries.{Entry}
use Rattle.os_heap.specs.Store.{Store}
use Rattle.flex_store.specs.declared.flex.Flex.{Flex}
use Rattle.dynamic_areas.specs.Ground.{AreaStore, IsAreaStore}
use Rattle.rma.specs.Calls.{rma_claimed, rma_extended, rma_freed}
use Rattle.instances.proofs.GoingOn.{bound as bound_any}
use Rattle.instances.specs.Reading.{instance_info}
use Rattle.instances.specs.tidying.Laws.{AreBytes}
use Rattle.instances.specs.module_state.ModuleState.{ModuleState}
use Rattle.instances_table.specs.plans.Plans.{Plan}
use Rattle.instances_table.specs.Changes.{modules_after_rename, preferring}
use Rattle.instances_table.specs.Modules.{Module}
use Rattle.swi_dispatch_guest.specs.Refusals.{or_error}
use Rattle.swi_dispatch_guest.specs.Strings.{string_in}
use Rattle.swi_dispatch_guest.specs.Refusal.{Refusal}
use Rattle.swi_dispatch_guest.specs.Refusal.TheVariants as refusal
use Rattle.swi_dispatch_guest.specs.SwiDispatchPlansCalls.{module_called_for, result_of_module_call}
use Rattle.swi_dispatch_guest.specs.Naming.{instance_found, instance_preferred, instance_renamed, place_asked, with_shown}
use Rattle.swi_dispatch_guest.specs.ImagePlans.{instantiation_planned}
use Rattle.swi_dispatch_guest.specs.ModulePlans.{clear_planned, delete_planned, reinit_planned, tidy_planned}
use Rattle.swi_dispatch_guest.specs.Openings.{opening_asked}
use Rattle.swi_dispatch_guest.specs.Opening.{Opening}
use Rattle.swi_dispatch_guest.specs.Call.{Call}
use Rattle.swi_dispatch_guest.specs.Additions.{Planned, copy_planned, insertion_planned, load_planned, named_load_planned, plan_alone}
use Rattle.swi_dispatch_guest.specs.Answers.{refusal_answer, went_on}
use Rattle.swi_dispatch_guest.specs.Calls.{call_answer, on_module_state}
use Rattle.swi_dispatch_guest.specs.Gates.{carried_on}
use Rattle.swi_dispatch_guest.specs.MachineState.{MachineState, machine_area_store, machine_module_state, setting_of, with_module_state}
use Rattle.swi_dispatch_guest.specs.Returns.{gone_back}
use Rattle.swi_dispatch_guest.specs.Step.{begun_alone, call_of, call_refused, module_entered, os_module_called, os_module_called_for, outcome_of_answer, outcome_of_planned}
use Rattle.law_machine.proofs.HeapAloneLemmas.HeapAnswers.{overflow_back}
use Rattle.law_machine.proofs.HeapAloneLemmas.ModuleHosts.{HasModules, fit_module_state}
use Rattle.law_machine.proofs.HeapAloneLemmas.ModulePlans.{IsFitPlan}
use Rattle.law_machine.proofs.HeapAloneLemmas.PlansMade.{IsFitPlanned, alone_planned, clear_made, copy_made, delete_made, insertion_made, instantiation_made, load_made, named_load_made, reinit_made, tidy_made}
use Rattle.law_machine.specs.heap_frame.PlanLaws.{IsFitModuleState}
use Rattle.law_machine.proofs.OtherBytesLemmas.AreaCalls.{area_calls_keep_others}
use Rattle.law_machine.proofs.OtherBytesLemmas.Ending.{Ends, Nothing, refused}
use Rattle.law_machine.proofs.OtherBytesLemmas.Plans.{PlansAt, carried_written, copy_plans, insertion_plans, load_plans, named_load_plans, opened_text}
use Rattle.law_machine.specs.other_bytes.ActionWrites.{IsTextByte, IsWrittenByActions}
use Rattle.law_machine.specs.other_bytes.AreaWrites.{IsAreaWord, IsOfMovedAreaBlock}
use Rattle.law_machine.specs.other_bytes.MoveWrites.{IsDone, IsErrorByte, IsOfLoad, IsOfModuleCall, IsOfPlan, IsOfPlannedCall}

module _ (s : MachineState) (has : HasModules s) (a : ℕ) where
  fit : IsFitModuleState (machine_module_state s)
  fit = fit_module_state s has

  good : IsAreaStore (machine_area_store s)
  good = has.store.area_store

  small : AreBytes s.store.bytes.at
  small = has.store.stores.memory.bytes

  -- a call that has a plan begins
  begun_then : (makes : Bool) (call : Call) (u : Planned)
      → ((carried_on (with_module_state s u.module_state) call u.plan).store.bytes.at a ≡ u.module_state.area_store.store.bytes.at a)
      ⊎ (IsWrittenByActions u.plan.given u.module_state u.plan.actions a ⊎ ((call.enters ≡ true) × IsTextByte u.plan.given.text.items a))
      → PlansAt s a makes u
      → ((carried_on (with_module_state s u.module_state) call u.plan).store.bytes.at a ≡ s.store.bytes.at a) ⊎ IsOfPlan makes call.enters u a
  begun_then makes call u (inl kept) (inl same) = inl (kept ∙ same)
  begun_then makes call u (inl kept) (inr image) = inr (inl image)
  begun_then makes call u (inr written) before = inr (inr written)

  begun_by : (makes : Bool) (call : Call) (u : Planned) → IsFitPlanned s u → PlansAt s a makes u
      → ((carried_on (with_module_state s u.module_state) call u.plan).store.bytes.at a ≡ s.store.bytes.at a) ⊎ IsOfPlan makes call.enters u a
  begun_by makes call u made plans =
      begun_then makes call u
      (carried_written (with_module_state s u.module_state) call u.plan a (record { area_store = made.module_state.area_store.fit; slots = made.module_state.slots }) made.plan) plans

  planned_ends : (R : Store → Flex → Type 0) (x : Bool) (next : ℕ) (makes enters : Bool) (r : Result Planned ErrorNumber) → IfOk r (IsFitPlanned s)
      → IfOk r (PlansAt s a makes) → ((u : Planned) → r ≡ Ok u → IsOfPlan makes enters u a → (t : Store) (f : Flex) → R t f)
      → Ends s a R (outcome_of_planned s x next enters r).now
  unfolding outcome_of_planned
  planned_ends R x next makes enters (Err e) made plans row = refused s has.store a R x next (refusal.System e)
  planned_ends R x next makes enters (Ok u) made plans row =
      let t : MachineState = carried_on (with_module_state s u.module_state) (call_of s x next enters) u.plan in
      elim (begun_by makes (call_of s x next enters) u made plans) [
        | inl same ↦ inl same
        | inr byte ↦ inr (inr (row u refl byte t.store t.tables.flex))
      ]

  module _ (images : List Entry) (next : ℕ) where
    abbrev EndsBy : Option ModuleReason → MachineState → Type 0
    EndsBy why t = (t.store.bytes.at a ≡ s.store.bytes.at a) ⊎ (IsErrorByte t a ⊎ IsOfModuleCall images s next why t a)

    -- calls that run no module code
    abbrev AreaRow : Option ModuleReason → Store → Type 0
    AreaRow (Some reason.Claim) t = IsAreaWord t a
    AreaRow (Some reason.Free) t = IsAreaWord t a
    AreaRow (Some reason.Extend) t = IsAreaWord t a ⊎ IsOfMovedAreaBlock s.store t (register_of s.cpu 2) (register_of s.cpu 3) a
    AreaRow other t = ⊥

    row_of : (why : Option ModuleReason) (t : MachineState) → IsDone t → AreaRow why t.store → IsOfModuleCall images s next why t a
    row_of (Some reason.Claim) t done row = (done, row)
    row_of (Some reason.Free) t done row = (done, row)
    row_of (Some reason.Extend) t done row = (done, row)
    row_of other t done row = absurd row

    abbrev Left : Option ModuleReason → State × ModuleState → Type 0
    Left why q = (q.1.area_store.store.bytes.at a ≡ s.store.bytes.at a) ⊎ AreaRow why q.1.area_store.store

    abbrev w : ModuleState
    w = machine_module_state s

    shown_left : (A : Type 0) (why : Option ModuleReason) (r : Result A ErrorNumber) (f : A → State) → IfOk (bind (or_error r) (λ x. Ok (f x, w))) (Left why)
    shown_left A why (Ok x) f = inl refl
    shown_left A why (Err e) f = tt

    names_left : (why : Option ModuleReason) (r : Result (List Module) ErrorNumber)
        → IfOk (or_error (bind r (λ modules. Ok (s.cpu, record w { modules = modules })))) (Left why)
    names_left why (Ok modules) = inl refl
    names_left why (Err e) = tt

    found_left : (A : Type 0) (why : Option ModuleReason) (r : Result A ErrorNumber) (f : A → State) → IfOk (or_error (bind r (λ x. Ok (f x, w)))) (Left why)
    found_left A why (Ok x) f = inl refl
    found_left A why (Err e) f = tt

    claimed_left : (r : Result (AreaStore × ℕ) ErrorNumber) → rma_claimed w.area_store (register_of s.cpu 3) ≡ r
        → IfOk (bind (or_error r) (λ x. Ok (with_register s.cpu 2 x.1, record w { area_store = x.0 }))) (Left (Some reason.Claim))
    claimed_left (Ok x) is = (area_calls_keep_others w.area_store x.0 a good small).claim (register_of s.cpu 3) x.1 is
    claimed_left (Err e) is = tt

    freed_left : (r : Result (AreaStore × Unit {0}) ErrorNumber) → rma_freed w.area_store (register_of s.cpu 2) ≡ r
        → IfOk (bind (or_error r) (λ x. Ok (s.cpu, record w { area_store = x.0 }))) (Left (Some reason.Free))
    freed_left (Ok x) is = (area_calls_keep_others w.area_store x.0 a good small).free (register_of s.cpu 2) is
    freed_left (Err e) is = tt

    extended_left : (r : Result (AreaStore × ℕ) ErrorNumber) → rma_extended w.area_store (register_of s.cpu 2) (register_of s.cpu 3) ≡ r
        → IfOk (bind (or_error r) (λ x. Ok (with_register s.cpu 2 x.1, record w { area_store = x.0 }))) (Left (Some reason.Extend))
    extended_left (Ok x) is = (area_calls_keep_others w.area_store x.0 a good small).extend (register_of s.cpu 2) (register_of s.cpu 3) x.1 is
    extended_left (Err e) is = tt

    renamed_left : IfOk (instance_renamed s.cpu w) (Left (Some reason.Rename))
    renamed_left =
        bound_any (Left (Some reason.Rename)) (or_error (string_in w.area_store.store.bytes s.cpu 1)) _ (λ full.
        bound_any (Left (Some reason.Rename)) (or_error (string_in w.area_store.store.bytes s.cpu 2)) _ (λ new.
        names_left (Some reason.Rename) (modules_after_rename w.modules full new)))

    preferred_left : IfOk (instance_preferred s.cpu w) (Left (Some reason.Prefer))
    preferred_left =
        bound_any (Left (Some reason.Prefer)) (or_error (string_in w.area_store.store.bytes s.cpu 1)) _ (λ full.
        names_left (Some reason.Prefer) (preferring w.modules full))

    looked_left : IfOk (instance_found s.cpu w) (Left (Some reason.Lookup))
    looked_left =
        bound_any (Left (Some reason.Lookup)) (or_error (string_in w.area_store.store.bytes s.cpu 1)) _ (λ full.
        found_left _ (Some reason.Lookup) _ _)

    by_reason : (why : Option ModuleReason) → IfOk (module_called_for s.cpu w why) (Left why)
    by_reason (Some reason.DescribeArea) = inl refl
    by_reason (Some reason.Claim) = claimed_left (rma_claimed w.area_store (register_of s.cpu 3)) refl
    by_reason (Some reason.Free) = freed_left (rma_freed w.area_store (register_of s.cpu 2)) refl
    by_reason (Some reason.Info) = shown_left _ (Some reason.Info) (instance_info w.area_store.store.bytes.at w.modules (place_asked s.cpu)) (with_shown s.cpu)
    by_reason (Some reason.Extend) = extended_left (rma_extended w.area_store (register_of s.cpu 2) (register_of s.cpu 3)) refl
    by_reason (Some reason.Rename) = renamed_left
    by_reason (Some reason.Prefer) = preferred_left
    by_reason (Some reason.Lookup) = looked_left
    by_reason (Some reason.Run) = tt
    by_reason (Some reason.Load) = tt
    by_reason (Some reason.Enter) = tt
    by_reason (Some reason.Reinit) = tt
    by_reason (Some reason.Delete) = tt
    by_reason (Some reason.Tidy) = tt
    by_reason (Some reason.Clear) = tt
    by_reason (Some reason.Insert) = tt
    by_reason (Some reason.InsertCopy) = tt
    by_reason (Some reason.Instantiate) = tt
    by_reason None = tt

    by_refusal : (why : Option ModuleReason) (t : MachineState) → Ends s a Nothing t → EndsBy why t
    by_refusal why t (inl same) = inl same
    by_refusal why t (inr (inl own)) = inr (inl own)
    by_refusal why t (inr (inr never)) = absurd never

    module_state_ends : (why : Option ModuleReason) (x : Bool) (r : Result (State × ModuleState) Refusal) → IfOk r (Left why)
        → EndsBy why (outcome_of_answer s x (went_on s next (on_module_state s r))).now
    module_state_ends why x (Ok q) (inl same) = inl same
    module_state_ends why x (Ok q) (inr row) =
        inr (inr (row_of why (outcome_of_answer s x (went_on s next (on_module_state s (Ok q)))).now (overflow_back s.cpu.psr q.0 false next) row))
    module_state_ends why x (Err e) left = by_refusal why (outcome_of_answer s x (refusal_answer s next e)).now (refused s has.store a Nothing x next e)

    refused_ends : (why : Option ModuleReason) (x : Bool) (e : ErrorNumber) → EndsBy why (call_refused s x next e).now
    refused_ends why x e = by_refusal why (call_refused s x next e).now (refused s has.store a Nothing x next (refusal.System e))

    -- calls that have a plan, on instances that are there
    alone_plans : (r : Result Plan ErrorNumber) → IfOk (bind r (λ p. Ok (plan_alone s p))) (PlansAt s a false)
    alone_plans (Ok p) = inl refl
    alone_plans (Err e) = tt

    abbrev PlanRow : ModuleReason → Store → Flex → Type 0
    PlanRow why t f = IsOfPlannedCall images s next why a

    alone_ends : (why : ModuleReason) (x : Bool) (r : Result Plan ErrorNumber) → IfOk r IsFitPlan
        → ((u : Planned) → bind r (λ p. Ok (plan_alone s p)) ≡ Ok u → IsOfPlan false false u a → (t : Store) (f : Flex) → PlanRow why t f)
        → Ends s a (PlanRow why) (begun_alone s x next r).now
    alone_ends why x r made row =
        planned_ends (PlanRow why) x next false false (bind r (λ p. Ok (plan_alone s p))) (alone_planned s r fit made) (alone_plans r) row

    -- a module that is entered
    entered_ends : (x : Bool) (r : Result Opening ErrorNumber) → opening_asked (setting_of s) ≡ r → EndsBy (Some reason.Enter) (module_entered s x next r).now
    entered_ends x (Err e) is = refused_ends (Some reason.Enter) x e
    entered_ends x (Ok o) is = elim (opened_text (gone_back s.cpu.psr s false next) o.text.items o.start.slot o.start.at a) [
      | inl same ↦ inl same
      | inr text ↦ inr (inr (record { opening = o; asked = is; byte = text }))
    ]

    area_ends : (why : Option ModuleReason) (x : Bool) (number : ℕ) → module_reason (register_of s.cpu 0) ≡ why
        → EndsBy why (outcome_of_answer s x (call_answer s next number (Some swi.Module))).now
    unfolding call_answer result_of_module_call
    area_ends why x number is =
        subst (λ (o : Option ModuleReason). EndsBy o (outcome_of_answer s x (call_answer s next number (Some swi.Module))).now) is
        (module_state_ends (module_reason (register_of s.cpu 0)) x (module_called_for s.cpu w (module_reason (register_of s.cpu 0)))
        (by_reason (module_reason (register_of s.cpu 0))))

    reason_ends : (why : Option ModuleReason) (x : Bool) (number : ℕ) → module_reason (register_of s.cpu 0) ≡ why
        → EndsBy why (os_module_called_for images s x next number why).now
    reason_ends (Some reason.Run) x number is =
        planned_ends (PlanRow reason.Run) x next true true (named_load_planned images s true) (named_load_made images s true fit)
        (named_load_plans s a good small images true) (λ u planned byte t f. record { planned = u; is = planned; byte = byte })
    reason_ends (Some reason.Load) x number is =
        planned_ends (PlanRow reason.Load) x next true false (named_load_planned images s false) (named_load_made images s false fit)
        (named_load_plans s a good small images false) (λ u planned byte t f. record { planned = u; is = planned; byte = byte })
    reason_ends (Some reason.Enter) x number is = entered_ends x (opening_asked (setting_of s)) refl
    reason_ends (Some reason.Reinit) x number is =
        alone_ends reason.Reinit x (reinit_planned (setting_of s)) (reinit_made (setting_of s) fit.slots)
        (λ u planned byte t f. record { planned = u; is = planned; byte = byte })
    reason_ends (Some reason.Delete) x number is =
        alone_ends reason.Delete x (delete_planned (setting_of s)) (delete_made (setting_of s) fit.slots)
        (λ u planned byte t f. record { planned = u; is = planned; byte = byte })
    reason_ends (Some reason.Tidy) x number is =
        alone_ends reason.Tidy x (tidy_planned (setting_of s) next) (tidy_made (setting_of s) next)
        (λ u planned byte t f. record { planned = u; is = planned; byte = byte })
    reason_ends (Some reason.Clear) x number is =
        alone_ends reason.Clear x (clear_planned (setting_of s)) (clear_made (setting_of s) fit.slots)
        (λ u planned byte t f. record { planned = u; is = planned; byte = byte })
    reason_ends (Some reason.Insert) x number is =
        planned_ends (PlanRow reason.Insert) x next false false (insertion_planned s) (insertion_made s fit)
        (insertion_plans s a) (λ u planned byte t f. record { planned = u; is = planned; byte = byte })
    reason_ends (Some reason.InsertCopy) x number is =
        planned_ends (PlanRow reason.InsertCopy) x next true false (copy_planned s) (copy_made s fit)
        (copy_plans s a good small) (λ u planned byte t f. record { planned = u; is = planned; byte = byte })
    reason_ends (Some reason.Instantiate) x number is =
        alone_ends reason.Instantiate x (instantiation_planned (setting_of s)) (instantiation_made (setting_of s))
        (λ u planned byte t f. record { planned = u; is = planned; byte = byte })
    reason_ends (Some reason.DescribeArea) x number is = area_ends (Some reason.DescribeArea) x number is
    reason_ends (Some reason.Claim) x number is = area_ends (Some reason.Claim) x number is
    reason_ends (Some reason.Free) x number is = area_ends (Some reason.Free) x number is
    reason_ends (Some reason.Info) x number is = area_ends (Some reason.Info) x number is
    reason_ends (Some reason.Extend) x number is = area_ends (Some reason.Extend) x number is
    reason_ends (Some reason.Rename) x number is = area_ends (Some reason.Rename) x number is
    reason_ends (Some reason.Prefer) x number is = area_ends (Some reason.Prefer) x number is
    reason_ends (Some reason.Lookup) x number is = area_ends (Some reason.Lookup) x number is
    reason_ends None x number is = area_ends None x number is

    pub module_ends : (x : Bool) (number : ℕ) → EndsBy (module_reason (register_of s.cpu 0)) (os_module_called images s x next number).now
    unfolding os_module_called
    module_ends x number = reason_ends (module_reason (register_of s.cpu 0)) x number refl

  -- a module that is loaded from outside
  pub loaded_ends : (images : List Entry) (next : ℕ) (o : Option (List ℕ))
      → Ends s a (λ t f. IsOfLoad images s a)
      (outcome_of_planned s true next false (bind (ok_or o BadString) (λ words. load_planned images s words false))).now
  loaded_ends images next None = planned_ends (λ t f. IsOfLoad images s a) true next true false (Err BadString) tt tt (λ u is byte t f. absurd (cc))
  loaded_ends images next (Some words) =
      planned_ends (λ t f. IsOfLoad images s a) true next true false (load_planned images s words false) (load_made images s words false fit)
      (load_plans s a good small images words false) (λ u is byte t f. record { words = words; planned = u; is = is; byte = byte })
