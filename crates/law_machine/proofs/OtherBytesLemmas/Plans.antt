-- What a call on modules writes that is carried on, and what those write at once that add a module.
use Rattle.std.proofs.Common.{ℕ, ◌≡◌, ◌∙◌, ◌⊎◌, not, Bool, true, false, List, [], ◌∷◌, length, Option, Some, None, Result, Ok, Err, refl, subst, inl, inr}
use Rattle.std.specs.Prelude.{IfOk}
use Rattle.profile.specs.ErrorNumber.{ErrorNumber}
use Rattle.address_map.specs.Bytes.{bytes_between, in_range}
use Rattle.profile.specs.images.Entries.{Entry}
use Rattle.dynamic_areas.specs.Ground.{AreaStore, IsAreaStore}
use Rattle.rma.specs.Copies.{may_be_copied}
use Rattle.rma.specs.NewImages.{image_copied, image_made, may_be_in_place}
use Rattle.profile.specs.images.module_header.Header.{header_of}
use Rattle.instances.proofs.GoingOn.{bound as bound_any}
use Rattle.instances.specs.Adding.{copying, good_header, inserting, loading, slot_for}
use Rattle.instances.specs.Reading.{start_found}
use Rattle.instances.specs.Turns.{module_doing}
use Rattle.instances.specs.actions.Actions.{module_state_after_action}
use Rattle.instances.specs.declared.answers.Start.{Start}
use Rattle.instances.specs.tidying.Laws.{AreBytes}
use Rattle.instances.specs.tidying.Slid.{module_state_slid}
use Rattle.instances.specs.module_state.ModuleState.{ModuleState}
use Rattle.instances_table.specs.plans.Carrying.{Carried, carried_by, carried_from, carry_of_plan}
use Rattle.instances_table.specs.plans.Plans.{Plan, actions_owed}
use Rattle.instances_table.specs.declared.plans.action.PlanAction.{PlanAction}
use Rattle.instances_table.specs.declared.plans.code.Code.{Code}
use Rattle.instances_table.specs.declared.plans.given.Given.{Given}
use Rattle.swi_dispatch_guest.specs.Call.{Call}
use Rattle.swi_dispatch_guest.specs.ImagePlans.{copy_asked, insertion_asked, load_asked}
use Rattle.swi_dispatch_guest.specs.PlannerInput.{string_asked}
use Rattle.swi_dispatch_guest.specs.Trials.{module_state_carried}
use Rattle.swi_dispatch_guest.specs.Additions.{Planned, copy_planned, insertion_planned, load_planned, named_load_planned, planned_of}
use Rattle.swi_dispatch_guest.specs.Gates.{call_ended_by, carried_on, ended_of, entered_if, entered_with, state_after_plan, state_with_code_entered}
use Rattle.swi_dispatch_guest.specs.MachineState.{MachineState, machine_area_store, machine_module_state, setting_of}
use Rattle.swi_dispatch_guest.specs.ModuleStart.{opened_at}
use Rattle.swi_dispatch_guest.specs.Returns.{gone_back}
use Rattle.law_machine.proofs.HeapAloneLemmas.ModulePlans.{IsFitPlan, bound, bound_if, bound_short}
use Rattle.law_machine.specs.heap_frame.PlanLaws.{IsFitModuleState}
use Rattle.law_machine.proofs.OtherBytesLemmas.Actions.{plans_keep_others}
use Rattle.law_machine.proofs.OtherBytesLemmas.AreaCalls.{area_calls_keep_others}
use Rattle.law_machine.proofs.OtherBytesLemmas.Releases.{text_written}
use Rattle.law_machine.specs.other_bytes.ActionWrites.{IsTextByte, IsWrittenByActions}
use Rattle.law_machine.specs.other_bytes.AreaWrites.{IsAreaWord}

-- what holds of what a plan is given holds of what is left of it
module _ (P : Given → Type 0) where
  abbrev Keeps : List PlanAction → Type 0
  Keeps actions = (w : ModuleState) (p : Plan) → P p.given → P (carried_from module_doing actions w p).rest.given

  keeps_by : (w : ModuleState) (p : Plan) (one : PlanAction) (others : List PlanAction) (o : Option Code) → Keeps others → P p.given
      → P (carried_by module_doing w p one others o (carried_from module_doing others)).rest.given
  keeps_by w p one others (Some code) on holds = holds
  keeps_by w p one others None on holds =
      on (module_state_after_action module_state_slid p.given w one) (record p { actions = others; instead = actions_owed p.instead one; runs = false }) holds

  keeps_from : (actions : List PlanAction) → Keeps actions
  keeps_from [] w p holds = holds
  keeps_from (one ∷ others) w p holds = keeps_by w p one others (module_doing.code_of w one) (keeps_from others) holds

  keeps_given : (w : ModuleState) (p : Plan) → P p.given → P (carry_of_plan module_doing w p).rest.given
  unfolding carry_of_plan
  keeps_given w p holds = keeps_from p.actions w p holds

-- a module that is entered
pub opened_text : (s : MachineState) (text : List ℕ) (slot : ℕ) (o : Option ℕ) (a : ℕ)
    → ((opened_at s text slot o).store.bytes.at a ≡ s.store.bytes.at a) ⊎ IsTextByte text a
opened_text s text slot None a = inl refl
opened_text s text slot (Some at) a = text_written (machine_area_store s) text a

entered_text : (s : MachineState) (text : List ℕ) (r : Result Start ErrorNumber) (a : ℕ)
    → ((entered_with s text r).store.bytes.at a ≡ s.store.bytes.at a) ⊎ IsTextByte text a
entered_text s text (Ok start) a = opened_text s text start.slot start.at a
entered_text s text (Err e) a = inl refl

-- the end of a call
abbrev EndsWith : MachineState → MachineState → Bool → Given → ℕ → Type 0
EndsWith s t enters g a = (t.store.bytes.at a ≡ s.store.bytes.at a) ⊎ ((enters ≡ true) × IsTextByte g.text.items a)

if_text : (s : MachineState) (enters : Bool) (g : Given) (a : ℕ) → EndsWith s (entered_if enters s g) enters g a
if_text s false g a = inl refl
if_text s true g a = elim (entered_text s g.text.items (start_found s.tables.modules g.header.title.items) a) [
  | inl same ↦ inl same
  | inr text ↦ inr (refl, text)
]

ended_text : (s : MachineState) (call : Call) (g : Given) (first : Option ℕ) (a : ℕ) → EndsWith s (call_ended_by s call g first) call.enters g a
ended_text s call g (Some r0) a = inl refl
ended_text s call g None a = if_text (gone_back call.caller s false call.next) call.enters g a

-- a call that is carried on
abbrev gone : MachineState → Call → Carried ModuleState → MachineState
gone s call c = state_after_plan (state_with_code_entered s call c) call (ended_of c)

gone_text : (s : MachineState) (call : Call) (w : ModuleState) (q : Plan) (o : Option Code) (a : ℕ)
    → (let c : Carried ModuleState = record { module_state = w; rest = q; code = o } in
    ((gone s call c).store.bytes.at a ≡ w.area_store.store.bytes.at a) ⊎ ((call.enters ≡ true) × IsTextByte q.given.text.items a))
gone_text s call w q (Some code) a = inl refl
gone_text s call w q None a =
    ended_text (state_with_code_entered s call (record { module_state = w; rest = q; code = None })) call q.given q.first a

carried_then : (x y z : ℕ) (A B : Type 0) → (x ≡ y) ⊎ B → (y ≡ z) ⊎ A → (x ≡ z) ⊎ (A ⊎ B)
carried_then x y z A B (inl same) (inl kept) = inl (same ∙ kept)
carried_then x y z A B (inl same) (inr written) = inr (inl written)
carried_then x y z A B (inr text) before = inr (inr text)

-- the text of the call that is carried on
same_text : (w : ModuleState) (p : Plan) → (carry_of_plan module_doing w p).rest.given.text.items ≡ p.given.text.items
same_text w p = keeps_given (λ (g : Given). g.text.items ≡ p.given.text.items) w p refl

pub carried_written : (s : MachineState) (call : Call) (p : Plan) (a : ℕ) → IsFitModuleState (machine_module_state s) → IsFitPlan p
    → ((carried_on s call p).store.bytes.at a ≡ s.store.bytes.at a)
    ⊎ (IsWrittenByActions p.given (machine_module_state s) p.actions a ⊎ ((call.enters ≡ true) × IsTextByte p.given.text.items a))
carried_written s call p a fit plan =
    let c : Carried ModuleState = module_state_carried (machine_module_state s) p in
    let text = subst (λ (words : List ℕ). ((carried_on s call p).store.bytes.at a ≡ c.module_state.area_store.store.bytes.at a) ⊎ ((call.enters ≡ true) × IsTextByte words a))
    (same_text (machine_module_state s) p) (gone_text s call c.module_state c.rest c.code a) in
    carried_then ((carried_on s call p).store.bytes.at a) (c.module_state.area_store.store.bytes.at a) (s.store.bytes.at a)
    (IsWrittenByActions p.given (machine_module_state s) p.actions a) ((call.enters ≡ true) × IsTextByte p.given.text.items a) text
    (plans_keep_others (machine_module_state s) p a fit plan.below plan.text)

-- calls that add a module: a new image gets its bytes in a block, and one in place keeps them
module _ (w : ModuleState) (a : ℕ) where
  abbrev Adds : Bool → ModuleState → Plan → Type 0
  Adds makes v p = (v.area_store.store.bytes.at a ≡ w.area_store.store.bytes.at a)
      ⊎ ((makes ≡ true) × (IsAreaWord v.area_store.store a ⊎ (in_range p.given.image p.given.len a ≡ true)))

  abbrev Added : Bool → ModuleState × Plan → Type 0
  Added makes r = Adds makes r.0 r.1

  abbrev Fills : ℕ → AreaStore × ℕ → Type 0
  Fills len made = (made.0.store.bytes.at a ≡ w.area_store.store.bytes.at a) ⊎ (IsAreaWord made.0.store a ⊎ (in_range made.1 len a ≡ true))

  module _ (good : IsAreaStore w.area_store) (small : AreBytes w.area_store.store.bytes.at) where
    made_fills : (image : List ℕ) (r : Result (AreaStore × ℕ) ErrorNumber) → image_made w.area_store image ≡ r → IfOk r (Fills (length image))
    made_fills image (Ok made) is = (area_calls_keep_others w.area_store made.0 a good small).make_image image made.1 is
    made_fills image (Err f) is = tt

    copied_fills : (at len : ℕ) (r : Result (AreaStore × ℕ) ErrorNumber) → image_copied w.area_store at len ≡ r → IfOk r (Fills len)
    copied_fills at len (Ok made) is = (area_calls_keep_others w.area_store made.0 a good small).copy_image at len made.1 is
    copied_fills at len (Err f) is = tt

    loading_adds : (image text : List ℕ) → IfOk (loading w image text) (Added true)
    unfolding loading
    loading_adds image text =
        bound_short (Added true) text _ (λ few.
        bound_any (Added true) (good_header (header_of image)) _ (λ header.
        bound_any (Added true) (slot_for w.modules header) _ (λ slot.
        bound (Fills (length image)) (Added true) (image_made w.area_store image) _
        (made_fills image (image_made w.area_store image) refl) (λ made fills. elim fills [ inl same ↦ inl same | inr written ↦ inr (refl, written) ]))))

    copying_adds : (at len : ℕ) → IfOk (copying w at len) (Added true)
    unfolding copying
    copying_adds at len =
        bound_if (Added true) (not (may_be_copied w.area_store at len)) _ _
        (bound_any (Added true) (good_header (header_of (bytes_between w.area_store.store.bytes.at at len))) _ (λ header.
        bound_any (Added true) (slot_for w.modules header) _ (λ slot.
        bound (Fills len) (Added true) (image_copied w.area_store at len) _
        (copied_fills at len (image_copied w.area_store at len) refl) (λ made fills. elim fills [ inl same ↦ inl same | inr written ↦ inr (refl, written) ]))))

  inserting_adds : (at len : ℕ) → IfOk (inserting w at len) (Added false)
  unfolding inserting
  inserting_adds at len =
      bound_if (Added false) (not (may_be_in_place w.area_store.store at len)) _ _
      (bound_any (Added false) (good_header (header_of (bytes_between w.area_store.store.bytes.at at len))) _ (λ header.
      bound_any (Added false) (slot_for w.modules header) _ (λ slot. inl refl)))

-- the same as a machine plans them
abbrev pub PlansAt : MachineState → ℕ → Bool → Planned → Type 0
PlansAt s a makes w = Adds (machine_module_state s) a makes w.module_state w.plan

added_planned : (s : MachineState) (a : ℕ) (makes : Bool) (r : Result (ModuleState × Plan) ErrorNumber) → IfOk r (Added (machine_module_state s) a makes)
    → IfOk (planned_of r) (PlansAt s a makes)
added_planned s a makes (Ok w) added = added
added_planned s a makes (Err e) added = tt

module _ (s : MachineState) (a : ℕ) (good : IsAreaStore (machine_area_store s)) (small : AreBytes s.store.bytes.at) where
  pub load_plans : (images : List Entry) (words : List ℕ) (enters : Bool) → IfOk (load_planned images s words enters) (PlansAt s a true)
  unfolding load_planned
  load_plans images words enters =
      bound_any (PlansAt s a true) (load_asked images (setting_of s) words enters) _ (λ l.
      added_planned s a true (loading (machine_module_state s) l.image l.text) (loading_adds (machine_module_state s) a good small l.image l.text))

  pub named_load_plans : (images : List Entry) (enters : Bool) → IfOk (named_load_planned images s enters) (PlansAt s a true)
  named_load_plans images enters =
      bound_any (PlansAt s a true) (string_asked (setting_of s) 1) _ (λ words. load_plans images words enters)

  pub copy_plans : IfOk (copy_planned s) (PlansAt s a true)
  unfolding copy_planned
  copy_plans =
      bound_any (PlansAt s a true) (copy_asked (setting_of s)) _ (λ range.
      added_planned s a true (copying (machine_module_state s) range.at range.len) (copying_adds (machine_module_state s) a good small range.at range.len))

pub insertion_plans : (s : MachineState) (a : ℕ) → IfOk (insertion_planned s) (PlansAt s a false)
unfolding insertion_planned
insertion_plans s a =
    bound_any (PlansAt s a false) (insertion_asked (setting_of s)) _ (λ range.
    added_planned s a false (inserting (machine_module_state s) range.at range.len) (inserting_adds (machine_module_state s) a range.at range.len))
