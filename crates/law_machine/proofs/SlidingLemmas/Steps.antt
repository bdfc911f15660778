-- The steps of a tidy: those that begin it, and those in which module code comes back.
use Rattle.std.proofs.Common.{ℕ, Bool, true, false, nat_lt, ◌==◌, ◌||◌, ◌≡◌, ◌≤◌, ◌⊎◌, ◌∙◌, List, [], ◌∷◌, length, Option, Some, None, is_some, Result, Ok, Err, lit≤, refl, sym, ap, subst, inl, inr}
use Rattle.std.specs.Prelude.{if◌then◌else◌}
use Rattle.std.specs.List.{list_any}
use Rattle.std.proofs.lemmas.Bool.{cases_Bool, false≢true, or_parts}
use Rattle.profile.specs.Outcome.{bind}
use Rattle.profile.specs.ErrorNumber.{ErrorNumber}
use Rattle.profile.specs.ErrorNumber.TheVariants.{ModuleBusy}
use Rattle.profile.specs.declared.reason.ModuleReason.{ModuleReason}
use Rattle.profile.specs.declared.reason.ModuleReason.TheVariants as reason
use Rattle.profile.specs.declared.swi.SwiName.{SwiName}
use Rattle.profile.specs.declared.swi.SwiName.TheVariants as swi
use Rattle.profile.specs.Reasons.{module_reason}
use Rattle.profile.specs.SwiNames.{swi_of}
use Rattle.arm_core.specs.declared.psr.Mode.TheVariants.{Supervisor}
use Rattle.arm_core.specs.State.{register_in, register_of}
use Rattle.profile.specs.images.Entries.{Entry}
use Rattle.instances_table.specs.declared.plans.action.PlanAction.{PlanAction}
use Rattle.instances_table.specs.declared.plans.action.PlanAction.TheVariants as act
use Rattle.instances_table.specs.declared.plans.code.Code.{Code}
use Rattle.instances_table.specs.declared.plans.code.Outcome.{Outcome as CodeOutcome}
use Rattle.instances_table.specs.declared.plans.code.Outcome.TheVariants.{Well, Refused}
use Rattle.instances_table.specs.declared.plans.given.Given.{Given}
use Rattle.instances_table.specs.plans.Carrying.{Carried, carry_of_plan}
use Rattle.instances_table.specs.plans.Plans.{Plan, first_action, plan_after_code}
use Rattle.instances.specs.tidying.Slid.{module_state_slid}
use Rattle.instances_table.specs.Modules.{slots_of}
use Rattle.instances.specs.module_state.ModuleState.{ModuleState}
use Rattle.instances.specs.Plans.{tidying}
use Rattle.instances.specs.Turns.{calls_module}
use Rattle.instances.specs.actions.Pending.{is_pending, pending_by}
use Rattle.swi_dispatch_guest.specs.ModulePlans.{may_begin_alone, tidy_planned}
use Rattle.swi_dispatch_guest.specs.PlannerInput.{PlannerInput}
use Rattle.swi_dispatch_guest.specs.Trials.{module_state_carried}
use Rattle.swi_dispatch_guest.specs.SwiDispatchAnswersFrame.{Frame}
use Rattle.swi_dispatch_guest.specs.FrameKind.{FrameKind}
use Rattle.swi_dispatch_guest.specs.FrameKind.TheVariants.{Swi, Entry as EntryFrame}
use Rattle.swi_dispatch_guest.specs.Frames.{innermost_frame}
use Rattle.swi_dispatch_guest.specs.declared.halt.Halt.TheVariants as halt
use Rattle.swi_dispatch_guest.specs.Gates.{carried_on, come_back, fault_ahead, frame_closed, frame_left, outcome_of_gate, gated_by, kept_by, outcome_left, plan_left, unless_fault}
use Rattle.swi_dispatch_guest.specs.MachineState.{MachineState, machine_module_state, silent, setting_of}
use Rattle.swi_dispatch_guest.specs.Returns.{outcome_of_error, outcome_of_halt}
use Rattle.swi_dispatch_guest.specs.Step.{outcome_of_planned, begun_alone, call_of, outcome_of_call, called_by, is_exit, os_module_called, os_module_called_for}
use Rattle.law_machine.proofs.SlidingStoresLemmas.Turns.{turns_follow}
use Rattle.law_machine.specs.sliding_stores.Laws.{IsFollowed}
use Rattle.law_machine.specs.sliding_stores.Meaning.{AreStores, Stores}
use Rattle.law_machine.specs.sliding_stores.Turning.{Slide, stores_after_step}
use Rattle.law_machine.proofs.SlidingLemmas.Behind.{IsTexted, behind_from, followed_behind, still_behind, texted_then}
use Rattle.law_machine.proofs.SlidingLemmas.Carrying.{IsCarriedOn, carried_so}
use Rattle.law_machine.proofs.SlidingLemmas.Tidying.{IsInitialised, IsOnItsWay, Waits, all_tidying, initialised, owed_too, slide_ahead, tidied, tidy_settles}
use Rattle.law_machine.specs.sliding.Laws.{TidyGoesOn}
use Rattle.law_machine.specs.sliding.MachineStores.{pending_in, stores_of}
use Rattle.law_machine.specs.sliding.Turns.{AreInitialisations, StoresAreStill, AreTidying, IsTidied, IsTidy, IsTidyKept, is_slide, is_to_slide}

-- what is kept of a plan that settles no image, and has no slide to make
kept_pending : (q : Plan) (o : Option Code) → is_pending q.actions ≡ false → pending_in (kept_by q o) ≡ []
kept_pending q None settles = refl
kept_pending q (Some code) settles = ap (λ (b : Bool). pending_by b q.given []) settles

kept_slid : (q : Plan) (o : Option Code) → list_any is_slide q.actions ≡ false → is_to_slide (kept_by q o) ≡ false
kept_slid q None none = refl
kept_slid q (Some code) none = none

-- the slide as a turn
slide_law : (return_address : ℕ) (x : Stores) → AreStores x → x.pending ≡ []
    → IsFollowed (Slide return_address) x (record x { module_state = module_state_slid return_address x.module_state })
unfolding stores_after_step
slide_law return_address x are none = (turns_follow x (Slide return_address ∷ []) are (none, tt)).0

module _ (return_address : ℕ) (s t : MachineState) (g : Given) (c : Carried ModuleState) (are : AreStores (stores_of s)) (new : AreStores (stores_of t))
    (none : pending_in s.tables.plan ≡ []) (on : IsCarriedOn s t c) where
  waits_still : Waits return_address g (machine_module_state s) c → IsTidied return_address s t
  waits_still waits =
      let plan : t.tables.plan ≡ Some c.rest = on.plan ∙ ap (kept_by c.rest) waits.entered in
      let pending : pending_in t.tables.plan ≡ pending_in s.tables.plan =
      ap pending_in plan ∙ ap (λ (b : Bool). pending_by b c.rest.given []) (tidy_settles c.rest.actions waits.tidy.actions) ∙ sym none in
      let texted : IsTexted (machine_module_state s) (machine_module_state t) = subst (λ (w : ModuleState). IsTexted w (machine_module_state t)) waits.module_state on.texted in
      let ahead : is_to_slide t.tables.plan ≡ true = ap is_to_slide plan ∙ slide_ahead c.rest.actions waits.tidy.actions in
      record {
        waits = λ is. (
          subst (IsTidyKept return_address) (sym plan) waits.tidy,
          still_behind (stores_of s) (stores_of t) are new (behind_from (stores_of s) (stores_of t) texted on.flex pending),
        );
        slides = λ is. absurd (false≢true (sym is ∙ ahead));
      }

  has_slid : IsInitialised g (module_state_slid return_address (machine_module_state s)) c → IsTidied return_address s t
  has_slid done =
      let pending : pending_in t.tables.plan ≡ pending_in s.tables.plan =
      ap pending_in on.plan ∙ kept_pending c.rest c.code done.settled ∙ sym none in
      let slid : is_to_slide t.tables.plan ≡ false = ap is_to_slide on.plan ∙ kept_slid c.rest c.code done.slid in
      let y : Stores = record (stores_of s) { module_state = module_state_slid return_address (machine_module_state s) } in
      record {
        waits = λ is. absurd (false≢true (sym slid ∙ is));
        slides = λ is.
            followed_behind (Slide return_address) (stores_of s) y (stores_of t) (slide_law return_address (stores_of s) are none)
            (behind_from y (stores_of t)
            (texted_then (module_state_slid return_address (machine_module_state s)) c.module_state (machine_module_state t) done.texted on.texted) on.flex pending)
            new;
      }

  pub tidied_by : IsOnItsWay return_address g (machine_module_state s) c → IsTidied return_address s t
  tidied_by (inl waits) = waits_still waits
  tidied_by (inr done) = has_slid done

-- the plan of a tidy
record IsTidyPlan (return_address : ℕ) (p : Plan) : Type 0 where
  tidy : IsTidy return_address p
  text : length p.given.text.items ≤ 255

given_on : (return_address : ℕ) (g : Given) (w : ModuleState) (c : Carried ModuleState) → IsOnItsWay return_address g w c → c.rest.given ≡ g
given_on return_address g w c (inl waits) = waits.given
given_on return_address g w c (inr done) = done.given

on_its_way : (return_address : ℕ) (p : Plan) (w : ModuleState) → IsTidyPlan return_address p → IsOnItsWay return_address p.given w (module_state_carried w p)
unfolding carry_of_plan
on_its_way return_address p w is = tidied return_address p.actions is.tidy.actions w p refl is.tidy.instead is.tidy.return is.text

short_on : (return_address : ℕ) (p : Plan) (w : ModuleState) (is : IsTidyPlan return_address p)
    → length (module_state_carried w p).rest.given.text.items ≤ 255
short_on return_address p w is =
    subst (λ (g : Given). length g.text.items ≤ 255)
    (sym (given_on return_address p.given w (module_state_carried w p) (on_its_way return_address p w is))) is.text

-- the begin
none_kept : (o : Option Plan) → is_some o ≡ false → o ≡ None
none_kept None is = refl
none_kept (Some p) is = absurd (false≢true (sym is))

planned_by : (b : Bool) (q p : Plan)
    → (let r : Result (Unit {0}) ErrorNumber = if b then Err ModuleBusy else Ok tt in bind r (λ _. Ok q) ≡ Ok p) → (b ≡ false) × (q ≡ p)
planned_by true q p is = absurd (cc)
planned_by false q p is = (refl, let same : Ok q ≡ Ok p = is in cc)

planned_is : (st : PlannerInput) (next : ℕ) (p : Plan) → tidy_planned st next ≡ Ok p → (st.plan ≡ None) × (tidying st.module_state.modules next ≡ p)
unfolding tidy_planned may_begin_alone
planned_is st next p is =
    let by = planned_by (is_some st.plan || nat_lt 0 (length st.frames)) (tidying st.module_state.modules next) p is in
    (none_kept st.plan (or_parts (is_some st.plan) (nat_lt 0 (length st.frames)) by.0).0, by.1)

begins_as : (images : List Entry) (s : MachineState) (x : Bool) (next number : ℕ) (p : Plan) → swi_of number ≡ Some swi.Module
    → module_reason (register_of s.cpu 0) ≡ Some reason.Tidy → tidy_planned (setting_of s) next ≡ Ok p
    → (outcome_of_call images s x next number).now ≡ carried_on s (call_of s x next false) p
unfolding outcome_of_call os_module_called outcome_of_planned
begins_as images s x next number p name reason planned =
    ap (λ (o : Option SwiName). (if is_exit o then outcome_of_halt s halt.Exit else called_by images s x next number o).now) name
    ∙ ap (λ (o : Option ModuleReason). (os_module_called_for images s x next number o).now) reason
    ∙ ap (λ (r : Result Plan ErrorNumber). (begun_alone s x next r).now) planned

pub begins : (images : List Entry) (s t : MachineState) (x : Bool) (next number : ℕ) (p : Plan) → AreStores (stores_of s) → AreStores (stores_of t)
    → swi_of number ≡ Some swi.Module → module_reason (register_of s.cpu 0) ≡ Some reason.Tidy → tidy_planned (setting_of s) next ≡ Ok p
    → t ≡ (outcome_of_call images s x next number).now → IsTidied next s t
begins images s t x next number p are new name reason planned after =
    let is = planned_is (setting_of s) next p planned in
    let plan : IsTidyPlan next p = subst (IsTidyPlan next) is.1 (record {
      tidy = record { actions = all_tidying (slots_of s.tables.modules) (slots_of s.tables.modules); instead = tt; return = refl };
      text = lit≤ tt;
    }) in
    let c : Carried ModuleState = module_state_carried (machine_module_state s) p in
    let on : IsCarriedOn s t c = subst (λ (u : MachineState). IsCarriedOn s u c) (sym (after ∙ begins_as images s x next number p name reason planned))
    (carried_so s (call_of s x next false) c (short_on next p (machine_module_state s) plan)) in
    tidied_by next s t p.given c are new (ap pending_in is.0) on (on_its_way next p (machine_module_state s) plan)

-- a machine of which nothing moved but the core and its frames
record IsUnmoved (s t : MachineState) : Type 0 where
  module_state : machine_module_state t ≡ machine_module_state s
  plan : t.tables.plan ≡ s.tables.plan
  flex : t.tables.flex ≡ s.tables.flex

same_still : (x : Stores) → AreStores x → StoresAreStill x x
same_still x are = record {
  meaning = refl;
  words = λ slot held. refl;
  modules = refl;
  stores = are;
  mapped = refl;
  pool = refl;
  area_table = refl;
  pending = refl;
}

unmoved_still : (s t : MachineState) → AreStores (stores_of s) → IsUnmoved s t → StoresAreStill (stores_of s) (stores_of t)
unmoved_still s t are un =
    let same : stores_of t ≡ stores_of s = λ i. record { module_state = un.module_state i; flex = un.flex i; pending = pending_in (un.plan i) } in
    subst (StoresAreStill (stores_of s)) (sym same) (same_still (stores_of s) are)

-- the gate
module _ (s : MachineState) (p : Plan) (kept : s.tables.plan ≡ Some p)
    (short : length (module_state_carried (machine_module_state s) (plan_after_code p (outcome_left s.cpu))).rest.given.text.items ≤ 255) where
  abbrev c : Carried ModuleState
  c = module_state_carried (machine_module_state s) (plan_after_code p (outcome_left s.cpu))

  abbrev Left : MachineState → Type 0
  Left t = IsUnmoved s t ⊎ IsCarriedOn s t c

  fault_left : (f : Frame) (o : Option ℕ) → Left (unless_fault s o (carried_on (come_back s f) f.call (plan_after_code p (outcome_left s.cpu)))).now
  fault_left f (Some number) = inl (record { module_state = refl; plan = refl; flex = refl })
  fault_left f None =
      let on = carried_so (come_back s f) f.call (module_state_carried (machine_module_state s) (plan_after_code p (outcome_left s.cpu))) short in
      inr (record { texted = on.texted; plan = on.plan; flex = on.flex })

  swi_left_by : (f : Frame) (overflow is_x : Bool)
      → IsUnmoved s (if overflow then outcome_of_error s is_x (silent (frame_closed s f)) else silent (frame_closed s f)).now
  swi_left_by f true true = record { module_state = refl; plan = refl; flex = refl }
  swi_left_by f true false = record { module_state = refl; plan = refl; flex = refl }
  swi_left_by f false is_x = record { module_state = refl; plan = refl; flex = refl }

  kind_left : (f : Frame) (k : FrameKind) → Left (frame_left s f k s.tables.plan).now
  kind_left f (Swi number) = inl (swi_left_by f s.cpu.psr.overflow f.call.is_x)
  kind_left f (EntryFrame kind) =
      subst (λ (o : Option Plan). Left (plan_left s f o).now) (sym kept)
      (fault_left f (fault_ahead f.call (machine_module_state s) (plan_after_code p (outcome_left s.cpu))))

  gate_by : (o : Option Frame) → Left (gated_by s o).now
  gate_by None = inl (record { module_state = refl; plan = refl; flex = refl })
  gate_by (Some f) = elim (cases_Bool (register_in Supervisor s.cpu 13 == f.stack)) [
    | inl good ↦ rw good (kind_left f f.kind)
    | inr bad ↦ rw bad (inl (record { module_state = refl; plan = refl; flex = refl }))
  ]

  gate_left : Left (outcome_of_gate s).now
  gate_left = gate_by (innermost_frame s.tables.frames)

-- the plan that goes on there
rest_by : (return_address : ℕ) (p : Plan) (xs : List PlanAction) → AreTidying xs → AreInitialisations p.instead → p.given.return_address ≡ return_address
    → length p.given.text.items ≤ 255 → calls_module (first_action xs) ≡ true
    → IsTidyPlan return_address (plan_after_code (record p { actions = xs; runs = true }) Well)
unfolding plan_after_code
rest_by return_address p (act.Finalise slot fatal ∷ xs) are instead return text calls = record {
  tidy = record { actions = are; instead = owed_too p.instead slot fatal instead; return = return };
  text = text;
}
rest_by return_address p (act.Slide ∷ xs) are instead return text calls = absurd (false≢true calls)
rest_by return_address p [] are instead return text calls = absurd are
rest_by return_address p (act.Initialise slot ∷ xs) are instead return text calls = absurd are
rest_by return_address p (act.Remove slot ∷ xs) are instead return text calls = absurd are
rest_by return_address p (act.FreePrivate slot ∷ xs) are instead return text calls = absurd are
rest_by return_address p (act.Insert slot ∷ xs) are instead return text calls = absurd are
rest_by return_address p (act.Instantiate slot ∷ xs) are instead return text calls = absurd are
rest_by return_address p (act.GiveUp ∷ xs) are instead return text calls = absurd are

record IsGivenUp (p q : Plan) : Type 0 where
  actions : AreInitialisations q.actions
  given : q.given ≡ p.given

refused_by : (p : Plan) (xs : List PlanAction) (r0 : ℕ) → AreTidying xs → AreInitialisations p.instead → calls_module (first_action xs) ≡ true
    → IsGivenUp p (plan_after_code (record p { actions = xs; runs = true }) (Refused r0))
unfolding plan_after_code
refused_by p (act.Finalise slot fatal ∷ xs) r0 are instead calls = record { actions = instead; given = refl }
refused_by p (act.Slide ∷ xs) r0 are instead calls = absurd (false≢true calls)
refused_by p [] r0 are instead calls = absurd are
refused_by p (act.Initialise slot ∷ xs) r0 are instead calls = absurd are
refused_by p (act.Remove slot ∷ xs) r0 are instead calls = absurd are
refused_by p (act.FreePrivate slot ∷ xs) r0 are instead calls = absurd are
refused_by p (act.Insert slot ∷ xs) r0 are instead calls = absurd are
refused_by p (act.Instantiate slot ∷ xs) r0 are instead calls = absurd are
refused_by p (act.GiveUp ∷ xs) r0 are instead calls = absurd are

-- a kept plan whose code is under way
pub record IsAtGate (return_address : ℕ) (s : MachineState) (p : Plan) : Type 0 where
  pub kept : s.tables.plan ≡ Some p
  pub tidy : IsTidy return_address p
  pub text : length p.given.text.items ≤ 255
  pub runs : p.runs ≡ true
  pub calls : calls_module (first_action p.actions) ≡ true

module _ (return_address : ℕ) (s t : MachineState) (p : Plan) (at : IsAtGate return_address s p) (are : AreStores (stores_of s))
    (new : AreStores (stores_of t)) (after : t ≡ (outcome_of_gate s).now) where
  runs_so : record p { runs = true } ≡ p
  runs_so = λ i. record p { runs = sym at.runs i }

  none_pending_yet : pending_in s.tables.plan ≡ []
  none_pending_yet = ap pending_in at.kept ∙ ap (λ (b : Bool). pending_by b p.given []) (tidy_settles p.actions at.tidy.actions)

  ahead_yet : is_to_slide s.tables.plan ≡ true
  ahead_yet = ap is_to_slide at.kept ∙ slide_ahead p.actions at.tidy.actions

  unmoved_tidied : IsUnmoved s t → IsTidied return_address s t
  unmoved_tidied un = record {
    waits = λ is. (
      subst (IsTidyKept return_address) (sym (un.plan ∙ at.kept)) at.tidy,
      unmoved_still s t are un,
    );
    slides = λ is. absurd (false≢true (sym is ∙ (ap is_to_slide un.plan ∙ ahead_yet)));
  }

  goes_well : outcome_left s.cpu ≡ Well → IsTidied return_address s t
  goes_well well =
      let q : Plan = plan_after_code p (outcome_left s.cpu) in
      let rest : IsTidyPlan return_address q =
      subst (λ (o : CodeOutcome). IsTidyPlan return_address (plan_after_code p o)) (sym well)
      (subst (λ (r : Plan). IsTidyPlan return_address (plan_after_code r Well)) runs_so
      (rest_by return_address p p.actions at.tidy.actions at.tidy.instead at.tidy.return at.text at.calls)) in
      let w : ModuleState = machine_module_state s in
      let left = subst (λ (u : MachineState). IsUnmoved s u ⊎ IsCarriedOn s u (module_state_carried w q)) (sym after)
      (gate_left s p at.kept (short_on return_address q w rest)) in
      elim left [
        | inl un ↦ unmoved_tidied un
        | inr on ↦ tidied_by return_address s t q.given (module_state_carried w q) are new none_pending_yet on (on_its_way return_address q w rest)
      ]

  given_up : (q : Plan) → IsGivenUp p q → IsInitialised q.given (machine_module_state s) (module_state_carried (machine_module_state s) q)
  unfolding carry_of_plan
  given_up q up = initialised q.actions up.actions (machine_module_state s) q refl (subst (λ (g : Given). length g.text.items ≤ 255) (sym up.given) at.text)

  goes_refused : (r0 : ℕ) → outcome_left s.cpu ≡ Refused r0 → StoresAreStill (stores_of s) (stores_of t)
  goes_refused r0 refused =
      let q : Plan = plan_after_code p (outcome_left s.cpu) in
      let up : IsGivenUp p q =
      subst (λ (o : CodeOutcome). IsGivenUp p (plan_after_code p o)) (sym refused)
      (subst (λ (r : Plan). IsGivenUp p (plan_after_code r (Refused r0))) runs_so
      (refused_by p p.actions r0 at.tidy.actions at.tidy.instead at.calls)) in
      let w : ModuleState = machine_module_state s in
      let done : IsInitialised q.given w (module_state_carried w q) = given_up q up in
      let short = subst (λ (g : Given). length g.text.items ≤ 255) (sym (done.given ∙ up.given)) at.text in
      let left = subst (λ (u : MachineState). IsUnmoved s u ⊎ IsCarriedOn s u (module_state_carried w q)) (sym after) (gate_left s p at.kept short) in
      elim left [
        | inl un ↦ unmoved_still s t are un
        | inr on ↦
            let c : Carried ModuleState = module_state_carried w q in
            let pending : pending_in t.tables.plan ≡ pending_in s.tables.plan =
            ap pending_in on.plan ∙ kept_pending c.rest c.code done.settled ∙ sym none_pending_yet in
            still_behind (stores_of s) (stores_of t) are new
            (behind_from (stores_of s) (stores_of t) (texted_then w c.module_state (machine_module_state t) done.texted on.texted) on.flex pending)
      ]

  pub goes : TidyGoesOn return_address s t
  goes = record { well = goes_well; refused = goes_refused }
