-- What the actions of plans write, each by itself and one after another.
use Rattle.std.proofs.Common.{ℕ, ◌≡◌, ◌≤◌, ◌∙◌, ◌⊎◌, false, List, [], ◌∷◌, length, Option, Some, None, refl, inl, inr}
use Rattle.instances_table.specs.plans.Carrying.{carried_by, carried_from, carry_of_plan}
use Rattle.instances_table.specs.plans.Plans.{Plan, actions_owed}
use Rattle.instances_table.specs.declared.plans.action.PlanAction.{PlanAction}
use Rattle.instances_table.specs.declared.plans.action.PlanAction.TheVariants as act
use Rattle.instances_table.specs.declared.plans.code.Code.{Code}
use Rattle.instances.specs.actions.Actions.{code_of, image_given, module_state_after_action}
use Rattle.instances.specs.tidying.Slid.{module_state_slid}
use Rattle.instances.specs.Turns.{module_doing}
use Rattle.instances.specs.module_state.ModuleState.{ModuleState}
use Rattle.law_machine.proofs.HeapFrameLemmas.Plans.{acts_fit}
use Rattle.law_machine.specs.heap_frame.PlanLaws.{AreActionsBelow, AreBelow, IsFitModuleState, ModuleStateStaysFit, slot_named}
use Rattle.law_machine.proofs.OtherBytesLemmas.Releases.{image_words, private_written, removed_written, text_written, word_written}
use Rattle.law_machine.proofs.OtherBytesLemmas.Slides.{slid_written}
use Rattle.law_machine.specs.other_bytes.ActionWrites.{ActionsKeepOthers, IsWrittenByAction, IsWrittenByActions, PlansKeepOthers, if_no_code}

pub actions_keep_others : ActionsKeepOthers
actions_keep_others w g (act.Finalise slot fatal) a fit = inl refl
actions_keep_others w g (act.Remove slot) a fit = removed_written w slot a fit.area_store
actions_keep_others w g (act.FreePrivate slot) a fit = private_written w.area_store slot a fit.area_store
actions_keep_others w g (act.Insert slot) a fit = word_written w.area_store slot 0 a
actions_keep_others w g (act.Instantiate slot) a fit = word_written w.area_store slot 0 a
actions_keep_others w g act.GiveUp a fit = image_words w.area_store (image_given g) a fit.area_store
actions_keep_others w g act.Slide a fit = slid_written g.return_address w a fit.area_store
actions_keep_others w g (act.Initialise slot) a fit = text_written w.area_store g.text.items a

-- one after another, up to the next code
module _ (a : ℕ) where
  abbrev Keeps : ModuleState → ModuleState → Type 0 → Type 0
  Keeps w v written = (v.area_store.store.bytes.at a ≡ w.area_store.store.bytes.at a) ⊎ written

  abbrev GoOn : List PlanAction → Type 0
  GoOn actions = (w : ModuleState) (p : Plan) → IsFitModuleState w → length p.given.text.items ≤ 255
      → Keeps w (carried_from module_doing actions w p).module_state (IsWrittenByActions p.given w actions a)

  and_then : (w v u : ModuleState) (first later : Type 0) → Keeps w v first → Keeps v u later → Keeps w u (first ⊎ later)
  and_then w v u first later (inl same) (inl kept) = inl (kept ∙ same)
  and_then w v u first later (inr written) (inl kept) = inr (inl written)
  and_then w v u first later before (inr written) = inr (inr written)

  first_alone : (w v : ModuleState) (first later : Type 0) → Keeps w v first → Keeps w v (first ⊎ later)
  first_alone w v first later (inl same) = inl same
  first_alone w v first later (inr written) = inr (inl written)

  by_code : (w : ModuleState) (p : Plan) (one : PlanAction) (actions : List PlanAction) (o : Option Code) → IsFitModuleState w → AreBelow (slot_named one)
      → length p.given.text.items ≤ 255 → GoOn actions
      → (let v : ModuleState = module_state_after_action module_state_slid p.given w one in
      Keeps w (carried_by module_doing w p one actions o (carried_from module_doing actions)).module_state
      (IsWrittenByAction p.given w v one a ⊎ if_no_code o (IsWrittenByActions p.given v actions a)))
  by_code w p one actions (Some code) fit below few on =
      let v : ModuleState = module_state_after_action module_state_slid p.given w one in
      first_alone w v (IsWrittenByAction p.given w v one a) ⊥ (actions_keep_others w p.given one a fit)
  by_code w p one actions None fit below few on =
      let v : ModuleState = module_state_after_action module_state_slid p.given w one in
      let q : Plan = record p { actions = actions; instead = actions_owed p.instead one; runs = false } in
      let stays : ModuleStateStaysFit w v = acts_fit w p.given one fit below few in
      and_then w v (carried_from module_doing actions v q).module_state (IsWrittenByAction p.given w v one a) (IsWrittenByActions p.given v actions a)
      (actions_keep_others w p.given one a fit)
      (on v q (record { area_store = stays.area_store.fit; slots = stays.slots }) few)

  from_kept : (actions : List PlanAction) → AreActionsBelow actions → GoOn actions
  from_kept [] below w p fit few = inl refl
  from_kept (one ∷ actions) below w p fit few = by_code w p one actions (code_of w one) fit below.0 few (from_kept actions below.1)

pub plans_keep_others : PlansKeepOthers
unfolding carry_of_plan
plans_keep_others w p a fit below few = from_kept a p.actions below w p fit few
