-- The actions of plans in which nothing slides: which heaps go, and with which blocks.
use Rattle.profile.specs.MemoryMap.{module_area_start}
use Rattle.std.proofs.Common.{ℕ, ◌*◌, ◌≡◌, ◌≢◌, ◌≤◌, false, List, [], ◌∷◌, length, Option, Some, None, Result, Ok, Err, refl, inl, inr}
use Rattle.std.proofs.lemmas.Bool.{cases_Bool, true≢false}
use Rattle.profile.specs.ErrorNumber.{ErrorNumber}
use Rattle.os_heap_words.specs.lists.Heap.{HeapList}
use Rattle.os_heap.specs.Calls.{gave_back}
use Rattle.os_heap.specs.Store.{Store}
use Rattle.dynamic_areas.specs.Ground.{AreaStore}
use Rattle.rma.specs.Calls.{in_area, rma_freed}
use Rattle.rma.specs.Images.{image_dropped, image_freed, or_kept}
use Rattle.rma.proofs.FlexFrameLemmas.Heaps.{OnDone}
use Rattle.instances_table.specs.Changes.{module_without}
use Rattle.instances_table.specs.ModuleArea.{is_in_module_area}
use Rattle.instances_table.specs.Modules.{Module, has_instance}
use Rattle.instances_table.specs.declared.parts.Image.{Image}
use Rattle.instances_table.specs.declared.plans.action.PlanAction.{PlanAction}
use Rattle.instances_table.specs.declared.plans.action.PlanAction.TheVariants as act
use Rattle.instances_table.specs.declared.plans.code.Code.{Code}
use Rattle.instances_table.specs.declared.plans.given.Given.{Given}
use Rattle.instances_table.specs.plans.Carrying.{carry_of_plan, carried_by, carried_from}
use Rattle.instances_table.specs.plans.Plans.{Plan, actions_owed}
use Rattle.instances.specs.module_state.ModuleState.{ModuleState, area_store_after_free, image_gone, image_gone_of, image_gone_with, or_same, private_freed, private_word, module_state_after_remove, with_private}
use Rattle.instances.specs.tidying.Slid.{module_state_slid}
use Rattle.instances.specs.actions.Actions.{code_of, image_given, module_state_after_action}
use Rattle.instances.specs.Turns.{module_doing}
use Rattle.law_machine.proofs.HeapFrameLemmas.ModuleArea.{OnAreaStore, records_fit}
use Rattle.law_machine.proofs.HeapFrameLemmas.Plans.{acts_fit}
use Rattle.law_machine.proofs.HeapFrameLemmas.Words.{block_fit}
use Rattle.law_machine.specs.heap_frame.FitAreaStores.{AreaStoreStaysFit, IsFitAreaStore}
use Rattle.law_machine.specs.heap_frame.Fits.{IsFitStore}
use Rattle.law_machine.specs.heap_frame.PlanLaws.{AreActionsBelow, AreBelow, IsFitModuleState, ModuleStateStaysFit, slot_named}
use Rattle.law_machine.specs.live_bytes.Changes.{has_slide}
use Rattle.law_machine.proofs.ModuleHeapsLemmas.Giving.{GivesUp, GivesUpIn, gave_gives, gives_both, same_gives}

module _ (k : HeapList) (other : k.start ≢ module_area_start) where
  abbrev GivesIn : AreaStore → AreaStore × Unit {0} → Type 0
  GivesIn e x = GivesUp k e.store x.0.store

  in_gives : (e : AreaStore) (r : Result (Store × Unit {0}) ErrorNumber) → OnDone (GivesUpIn k e.store) r → OnAreaStore (GivesIn e) (in_area e r)
  in_gives e (Ok x) done = done
  in_gives e (Err f) done = tt

  pub freed_gives : (e : AreaStore) (block : ℕ) → IsFitAreaStore e → OnAreaStore (GivesIn e) (rma_freed e block)
  unfolding rma_freed
  freed_gives e block f = in_gives e (gave_back e.store module_area_start block) (gave_gives (4096 * f.area.pages) k block e.store other f.store)

  -- a private word's block
  or_same_gives : (e : AreaStore) (r : Result (AreaStore × Unit {0}) ErrorNumber) → OnAreaStore (GivesIn e) r → GivesUp k e.store (or_same e r).store
  or_same_gives e (Ok x) done = done
  or_same_gives e (Err g) done = same_gives k e.store e.store refl

  block_gives : (e : AreaStore) (slot : ℕ) → IsFitAreaStore e → GivesUp k e.store (private_freed e slot).store
  unfolding private_freed
  block_gives e slot f =
      let block : ℕ = private_word e slot in
      let g : AreaStore = area_store_after_free e block in
      gives_both k e.store g.store (with_private g slot 0).store (or_same_gives e (rma_freed e block) (freed_gives e block f))
      (same_gives k g.store (with_private g slot 0).store refl)

  -- an image
  dropped_gives : (s : Store) (at : ℕ) → GivesUp k s (image_dropped s at)
  unfolding image_dropped
  dropped_gives s at = same_gives k s _ refl

  dropped_still_fit : (limit : ℕ) (s : Store) (at : ℕ) → IsFitStore limit s → IsFitStore limit (image_dropped s at)
  unfolding image_dropped
  dropped_still_fit limit s at f = (records_fit limit s _ f).fit

  or_kept_gives : (s : Store) (r : Result (Store × Unit {0}) ErrorNumber) → OnDone (GivesUpIn k s) r → GivesUp k s (or_kept s r)
  or_kept_gives s (Ok x) done = done
  or_kept_gives s (Err e) done = same_gives k s s refl

  image_freed_gives : (limit : ℕ) (s : Store) (at : ℕ) → IsFitStore limit s → GivesUp k s (image_freed s at)
  unfolding image_freed
  image_freed_gives limit s at f =
      let t : Store = image_dropped s at in
      gives_both k s t (or_kept t (gave_back t module_area_start at)) (dropped_gives s at)
      (or_kept_gives t (gave_back t module_area_start at) (gave_gives limit k at t other (dropped_still_fit limit s at f)))

  image_gives : (e : AreaStore) (image : Image) → IsFitAreaStore e → GivesUp k e.store (image_gone e image).store
  unfolding image_gone
  image_gives e image f = elim (cases_Bool (is_in_module_area image.at)) [
    | inl inside ↦ rw inside (image_freed_gives (4096 * f.area.pages) e.store image.at f.store)
    | inr beside ↦ rw beside (dropped_gives e.store image.at)
  ]

  image_of_gives : (e : AreaStore) (m : Module) (left : List Module) → IsFitAreaStore e → GivesUp k e.store (image_gone_of e m left).store
  image_of_gives e m [] f = image_gives e m.image f
  image_of_gives e m (n ∷ left) f = same_gives k e.store e.store refl

  image_with_gives : (e : AreaStore) (slot : ℕ) (modules : List Module) → IsFitAreaStore e → GivesUp k e.store (image_gone_with e slot modules).store
  image_with_gives e slot [] f = same_gives k e.store e.store refl
  image_with_gives e slot (m ∷ modules) f = elim (cases_Bool (has_instance slot m)) [
    | inl here ↦ rw here (image_of_gives e m (module_without slot m) f)
    | inr away ↦ rw away (image_with_gives e slot modules f)
  ]

  removed_gives : (w : ModuleState) (slot : ℕ) → IsFitModuleState w → AreBelow (slot ∷ []) → GivesUp k w.area_store.store (module_state_after_remove w slot).area_store.store
  unfolding module_state_after_remove
  removed_gives w slot f below =
      let e : AreaStore = private_freed w.area_store slot in
      let one : AreaStoreStaysFit w.area_store e = block_fit w.area_store slot f.area_store below.0 in
      gives_both k w.area_store.store e.store (image_gone_with e slot w.modules).store (block_gives w.area_store slot f.area_store)
      (image_with_gives e slot w.modules one.fit)

  abbrev Acts : ModuleState → Given → PlanAction → Type 0
  Acts w g a = GivesUp k w.area_store.store (module_state_after_action module_state_slid g w a).area_store.store

  -- one after another, up to the next code
  abbrev GoesOn : List PlanAction → Type 0
  GoesOn actions = (w : ModuleState) (p : Plan) → IsFitModuleState w → length p.given.text.items ≤ 255
      → GivesUp k w.area_store.store (carried_from module_doing actions w p).module_state.area_store.store

  with_code : (w : ModuleState) (p : Plan) (a : PlanAction) (actions : List PlanAction) (o : Option Code) → IsFitModuleState w → AreBelow (slot_named a)
      → length p.given.text.items ≤ 255 → Acts w p.given a → GoesOn actions
      → GivesUp k w.area_store.store (carried_by module_doing w p a actions o (carried_from module_doing actions)).module_state.area_store.store
  with_code w p a actions (Some code) f below few acts on = acts
  with_code w p a actions None f below few acts on =
      let v : ModuleState = module_state_after_action module_state_slid p.given w a in
      let q : Plan = record p { actions = actions; instead = actions_owed p.instead a; runs = false } in
      let one : ModuleStateStaysFit w v = acts_fit w p.given a f below few in
      gives_both k w.area_store.store v.area_store.store (carried_from module_doing actions v q).module_state.area_store.store acts
      (on v q (record { area_store = one.area_store.fit; slots = one.slots }) few)

  then_on : (a : PlanAction) (actions : List PlanAction) → ((w : ModuleState) (g : Given) → IsFitModuleState w → AreBelow (slot_named a) → Acts w g a) → AreBelow (slot_named a)
      → GoesOn actions → GoesOn (a ∷ actions)
  then_on a actions acts below on w p f few = with_code w p a actions (code_of w a) f below few (acts w p.given f below) on

  all_give : (actions : List PlanAction) → AreActionsBelow actions → has_slide actions ≡ false → GoesOn actions
  all_give [] below none = λ w p f few. same_gives k w.area_store.store w.area_store.store refl
  all_give (act.Finalise slot fatal ∷ actions) below none =
      then_on (act.Finalise slot fatal) actions (λ w g f b. same_gives k w.area_store.store w.area_store.store refl) below.0 (all_give actions below.1 none)
  all_give (act.Remove slot ∷ actions) below none =
      then_on (act.Remove slot) actions (λ w g f b. removed_gives w slot f b) below.0 (all_give actions below.1 none)
  all_give (act.FreePrivate slot ∷ actions) below none =
      then_on (act.FreePrivate slot) actions (λ w g f b. block_gives w.area_store slot f.area_store) below.0 (all_give actions below.1 none)
  all_give (act.Insert slot ∷ actions) below none =
      then_on (act.Insert slot) actions (λ w g f b. same_gives k w.area_store.store _ refl) below.0 (all_give actions below.1 none)
  all_give (act.Instantiate slot ∷ actions) below none =
      then_on (act.Instantiate slot) actions (λ w g f b. same_gives k w.area_store.store _ refl) below.0 (all_give actions below.1 none)
  all_give (act.GiveUp ∷ actions) below none =
      then_on act.GiveUp actions (λ w g f b. image_gives w.area_store (image_given g) f.area_store) below.0 (all_give actions below.1 none)
  all_give (act.Slide ∷ actions) below none = absurd (true≢false none)
  all_give (act.Initialise slot ∷ actions) below none =
      then_on (act.Initialise slot) actions (λ w g f b. same_gives k w.area_store.store _ refl) below.0 (all_give actions below.1 none)

  pub plan_gives : (w : ModuleState) (p : Plan) → IsFitModuleState w → AreActionsBelow p.actions → length p.given.text.items ≤ 255 → has_slide p.actions ≡ false
      → GivesUp k w.area_store.store (carry_of_plan module_doing w p).module_state.area_store.store
  unfolding carry_of_plan
  plan_gives w p f below few none = all_give p.actions below none w p f few
