-- Blocks of the module area, over the actions of plans in which nothing slides.
use Rattle.profile.specs.MemoryMap.{environment_text_start, module_area_start}
use Rattle.std.proofs.Common.{ℕ, ◌+◌, ◌*◌, ◌≡◌, ◌≤◌, ◌<◌, ◌++◌, false, List, [], ◌∷◌, length, Option, Some, None, Result, Ok, Err, refl, inl, inr, arith}
use Rattle.std.proofs.lemmas.Bool.{cases_Bool, lt-leb, ne_eqb}
use Rattle.profile.specs.ErrorNumber.{ErrorNumber}
use Rattle.address_map.specs.Bytes.{with_bytes_at, with_word_at}
use Rattle.os_heap.specs.Calls.{gave_back}
use Rattle.os_heap.specs.Store.{Store}
use Rattle.dynamic_areas.specs.Ground.{AreaStore}
use Rattle.rma.specs.Calls.{rma_freed}
use Rattle.rma.specs.Images.{image_dropped, image_freed, or_kept}
use Rattle.rma.proofs.FlexFrameLemmas.Heaps.{OnDone}
use Rattle.instances_table.specs.Changes.{module_without}
use Rattle.instances_table.specs.ModuleArea.{is_in_module_area}
use Rattle.instances_table.specs.Modules.{Module, has_instance}
use Rattle.instances_table.specs.declared.parts.Image.{Image}
use Rattle.instances_table.specs.declared.plans.action.PlanAction.{PlanAction}
use Rattle.instances_table.specs.declared.plans.action.PlanAction.TheVariants as act
use Rattle.instances_table.specs.declared.plans.code.Code.{Code}
use Rattle.instances_table.specs.declared.plans.given.Given.{Given}
use Rattle.instances_table.specs.plans.Carrying.{carry_of_plan, carried_by, carried_from}
use Rattle.instances_table.specs.plans.Code.{private_of}
use Rattle.instances_table.specs.plans.Plans.{Plan, actions_owed}
use Rattle.instances.specs.module_state.ModuleState.{ModuleState, area_store_after_free, image_gone, image_gone_of, image_gone_with, or_same, private_freed, private_word, module_state_after_remove, with_private, with_text}
use Rattle.instances.specs.tidying.Slid.{module_state_slid}
use Rattle.instances.specs.actions.Actions.{module_state_after_action, code_of, image_given}
use Rattle.instances.specs.Turns.{module_doing}
use Rattle.law_machine.proofs.HeapFrameLemmas.BlockCalls.{WereIn, WereLiveIn, freed_were, gave_were}
use Rattle.law_machine.proofs.HeapFrameLemmas.Blocks.{AreSame, beside_same, same_all, same_were, were_both}
use Rattle.law_machine.proofs.HeapFrameLemmas.ModuleArea.{OnAreaStore, freed_fit, records_fit}
use Rattle.law_machine.proofs.HeapFrameLemmas.Plans.{acts_fit}
use Rattle.law_machine.proofs.HeapFrameLemmas.Words.{block_fit, or_same_fit}
use Rattle.law_machine.specs.heap_frame.BlockLaws.{HaveNoSlide, PlansKeepBlocks, WereLive}
use Rattle.law_machine.specs.heap_frame.FitAreaStores.{AreaStoreStaysFit, IsFitAreaStore}
use Rattle.law_machine.specs.heap_frame.Fits.{IsFitStore}
use Rattle.law_machine.specs.heap_frame.PlanLaws.{AreActionsBelow, AreBelow, IsFitModuleState, ModuleStateStaysFit, slot_named}

were_all : (s : Store) → WereLive s s
were_all s = same_were s s (same_all s)

-- private words and the environment text lie after the module area
word_low : (f : ℕ → ℕ) (at value a : ℕ) → a < at → with_word_at f at value a ≡ f a
word_low f at value a less = rw (
  ne_eqb a at (λ e. omega (arith, less, e)),
  ne_eqb a (at + 1) (λ e. omega (arith, less, e)),
  ne_eqb a (at + 2) (λ e. omega (arith, less, e)),
  ne_eqb a (at + 3) (λ e. omega (arith, less, e)),
) refl

word_same : (e : AreaStore) (slot value : ℕ) → IsFitAreaStore e → AreSame e.store (with_private e slot value).store
word_same e slot value f =
    beside_same (4096 * f.area.pages) e.store (record { mapped = e.store.bytes.mapped; at = with_word_at e.store.bytes.at (private_of slot) value }) f.store
    (λ a low high. word_low e.store.bytes.at (private_of slot) value a (omega (arith, high)))

pub text_same : (e : AreaStore) (text : List ℕ) → IsFitAreaStore e → AreSame e.store (with_text e text).store
text_same e text f =
    beside_same (4096 * f.area.pages) e.store (record { mapped = e.store.bytes.mapped; at = with_bytes_at e.store.bytes.at environment_text_start (text ++ 0 ∷ []) }) f.store
    (λ a low high. rw (lt-leb environment_text_start a (omega (arith, high))) refl)

-- a private word's block goes
or_same_were : (A : Type 0) (e : AreaStore) (r : Result (AreaStore × A) ErrorNumber) → OnAreaStore (WereIn e) r → WereLive e.store (or_same e r).store
or_same_were A e (Ok x) done = done
or_same_were A e (Err g) done = were_all e.store

block_were : (e : AreaStore) (slot : ℕ) → IsFitAreaStore e → WereLive e.store (private_freed e slot).store
unfolding private_freed
block_were e slot f =
    let block : ℕ = private_word e slot in
    let g : AreaStore = area_store_after_free e block in
    let fit : AreaStoreStaysFit e g = or_same_fit (Unit {0}) e (rma_freed e block) f (freed_fit e block f) in
    were_both e.store g.store (with_private g slot 0).store (or_same_were (Unit {0}) e (rma_freed e block) (freed_were e block f))
    (same_were g.store (with_private g slot 0).store (word_same g slot 0 fit.fit))

-- and an image
dropped_same : (s : Store) (at : ℕ) → AreSame s (image_dropped s at)
unfolding image_dropped
dropped_same s at = record { totals = λ block. refl; bytes = λ block total live a inside. refl }

or_kept_were : (s : Store) (r : Result (Store × Unit {0}) ErrorNumber) → OnDone (WereLiveIn s) r → WereLive s (or_kept s r)
or_kept_were s (Ok x) done = done
or_kept_were s (Err e) done = were_all s

dropped_fit : (limit : ℕ) (s : Store) (at : ℕ) → IsFitStore limit s → IsFitStore limit (image_dropped s at)
unfolding image_dropped
dropped_fit limit s at f = (records_fit limit s _ f).fit

image_freed_were : (limit : ℕ) (s : Store) (at : ℕ) → IsFitStore limit s → WereLive s (image_freed s at)
unfolding image_freed
image_freed_were limit s at f =
    let t : Store = image_dropped s at in
    were_both s t (or_kept t (gave_back t module_area_start at)) (same_were s t (dropped_same s at))
    (or_kept_were t (gave_back t module_area_start at) (gave_were limit at t (dropped_fit limit s at f)))

image_were : (e : AreaStore) (image : Image) → IsFitAreaStore e → WereLive e.store (image_gone e image).store
unfolding image_gone
image_were e image f = elim (cases_Bool (is_in_module_area image.at)) [
  | inl inside ↦ rw inside (image_freed_were (4096 * f.area.pages) e.store image.at f.store)
  | inr beside ↦ rw beside (same_were e.store (image_dropped e.store image.at) (dropped_same e.store image.at))
]

image_of_were : (e : AreaStore) (m : Module) (left : List Module) → IsFitAreaStore e → WereLive e.store (image_gone_of e m left).store
image_of_were e m [] f = image_were e m.image f
image_of_were e m (k ∷ left) f = were_all e.store

image_with_were : (e : AreaStore) (slot : ℕ) (modules : List Module) → IsFitAreaStore e → WereLive e.store (image_gone_with e slot modules).store
image_with_were e slot [] f = were_all e.store
image_with_were e slot (m ∷ modules) f = elim (cases_Bool (has_instance slot m)) [
  | inl here ↦ rw here (image_of_were e m (module_without slot m) f)
  | inr other ↦ rw other (image_with_were e slot modules f)
]

removed_were : (w : ModuleState) (slot : ℕ) → IsFitModuleState w → slot < 64 → WereLive w.area_store.store (module_state_after_remove w slot).area_store.store
unfolding module_state_after_remove
removed_were w slot f few =
    let e : AreaStore = private_freed w.area_store slot in
    let one : AreaStoreStaysFit w.area_store e = block_fit w.area_store slot f.area_store few in
    were_both w.area_store.store e.store (image_gone_with e slot w.modules).store (block_were w.area_store slot f.area_store)
    (image_with_were e slot w.modules one.fit)

acts_were : (w : ModuleState) (g : Given) (a : PlanAction) → IsFitModuleState w → AreBelow (slot_named a) → HaveNoSlide (a ∷ [])
    → WereLive w.area_store.store (module_state_after_action module_state_slid g w a).area_store.store
acts_were w g (act.Finalise slot fatal) f below none = were_all w.area_store.store
acts_were w g (act.Remove slot) f below none = removed_were w slot f below.0
acts_were w g (act.FreePrivate slot) f below none = block_were w.area_store slot f.area_store
acts_were w g (act.Insert slot) f below none =
    same_were w.area_store.store (with_private w.area_store slot 0).store (word_same w.area_store slot 0 f.area_store)
acts_were w g (act.Instantiate slot) f below none =
    same_were w.area_store.store (with_private w.area_store slot 0).store (word_same w.area_store slot 0 f.area_store)
acts_were w g act.GiveUp f below none = image_were w.area_store (image_given g) f.area_store
acts_were w g act.Slide f below none = absurd none
acts_were w g (act.Initialise slot) f below none =
    same_were w.area_store.store (with_text w.area_store g.text.items).store (text_same w.area_store g.text.items f.area_store)

-- one after another, up to the next code
none_first : (a : PlanAction) (actions : List PlanAction) → HaveNoSlide (a ∷ actions) → HaveNoSlide (a ∷ []) × HaveNoSlide actions
none_first (act.Finalise slot fatal) actions none = (tt, none)
none_first (act.Remove slot) actions none = (tt, none)
none_first (act.FreePrivate slot) actions none = (tt, none)
none_first (act.Insert slot) actions none = (tt, none)
none_first (act.Instantiate slot) actions none = (tt, none)
none_first act.GiveUp actions none = (tt, none)
none_first act.Slide actions none = absurd none
none_first (act.Initialise slot) actions none = (tt, none)

abbrev GoOn : List PlanAction → Type 0
GoOn actions = (w : ModuleState) (p : Plan) → IsFitModuleState w → length p.given.text.items ≤ 255
    → WereLive w.area_store.store (carried_from module_doing actions w p).module_state.area_store.store

by_code : (w : ModuleState) (p : Plan) (a : PlanAction) (actions : List PlanAction) (o : Option Code) → IsFitModuleState w → AreBelow (slot_named a)
    → HaveNoSlide (a ∷ []) → length p.given.text.items ≤ 255 → GoOn actions
    → WereLive w.area_store.store (carried_by module_doing w p a actions o (carried_from module_doing actions)).module_state.area_store.store
by_code w p a actions (Some code) f below none few on = acts_were w p.given a f below none
by_code w p a actions None f below none few on =
    let v : ModuleState = module_state_after_action module_state_slid p.given w a in
    let q : Plan = record p { actions = actions; instead = actions_owed p.instead a; runs = false } in
    let one : ModuleStateStaysFit w v = acts_fit w p.given a f below few in
    were_both w.area_store.store v.area_store.store (carried_from module_doing actions v q).module_state.area_store.store (acts_were w p.given a f below none)
    (on v q (record { area_store = one.area_store.fit; slots = one.slots }) few)

from_were : (actions : List PlanAction) → AreActionsBelow actions → HaveNoSlide actions → GoOn actions
from_were [] below none w p f few = were_all w.area_store.store
from_were (a ∷ actions) below none w p f few =
    let parts = none_first a actions none in
    by_code w p a actions (code_of w a) f below.0 parts.0 few (from_were actions below.1 parts.1)

pub plans_keep_blocks : PlansKeepBlocks
unfolding carry_of_plan
plans_keep_blocks w p f below few none = from_were p.actions below none w p f few
