-- The actions of plans, one after another.
use Rattle.profile.specs.MemoryMap.{module_area_start}
use Rattle.std.proofs.Common.{ℕ, ◌+◌, ◌-◌, ◌*◌, ◌≡◌, ◌≢◌, ◌≤◌, ◌<◌, ◌∙◌, Bool, false, List, [], ◌∷◌, length, Option, Some, None, refl, ap, inl, inr, arith}
use Rattle.std.proofs.lemmas.Bool.{cases_Bool}
use Rattle.address_map.specs.Moves.{moved_to}
use Rattle.address_map.specs.declared.follow.BlockMove.{BlockMove}
use Rattle.os_heap_words.specs.lists.Heap.{AreTotals, HeapList}
use Rattle.os_heap.proofs.Found.{found_start}
use Rattle.os_heap.specs.Forgetting.{holds_heap}
use Rattle.os_heap.specs.Store.{Store, find_heap}
use Rattle.rma.specs.heap_slide.Slide.{HoldNoHeap, is_listed, slid, with_slid}
use Rattle.dynamic_areas.specs.Ground.{AreaStore}
use Rattle.rma.specs.Calls.{with_store}
use Rattle.instances_table.specs.Changes.{module_without}
use Rattle.instances_table.specs.Modules.{Module, has_instance, slots_of}
use Rattle.instances_table.specs.declared.plans.action.PlanAction.{PlanAction}
use Rattle.instances_table.specs.declared.plans.action.PlanAction.TheVariants as act
use Rattle.instances_table.specs.declared.plans.code.Code.{Code}
use Rattle.instances_table.specs.plans.Carrying.{carry_of_plan, carried_by, carried_from}
use Rattle.instances_table.specs.plans.Plans.{Plan, actions_owed}
use Rattle.instances.specs.module_state.ModuleState.{ModuleState, image_gone_of, image_gone_with, private_freed, private_word, module_state_after_remove, with_private}
use Rattle.instances.proofs.TidyingLemmas.Choosing.{IsChosen, chosen}
use Rattle.instances.proofs.TidyingLemmas.LawLemmas.{words_heaps}
use Rattle.instances.proofs.TidyingLemmas.Tidying.{holds_none, payload_empty}
use Rattle.instances.specs.tidying.Movable.{can_move, movable_blocks}
use Rattle.instances.specs.tidying.Slid.{moves_in, private_words_of, words_moved, module_state_moved, module_state_slid, module_state_slid_in}
use Rattle.instances.specs.actions.Actions.{module_state_after_action, code_of, image_given}
use Rattle.instances.specs.Turns.{module_doing}
use Rattle.law_machine.proofs.HeapFrameLemmas.Holding.{area_of}
use Rattle.law_machine.proofs.HeapFrameLemmas.ModuleArea.{fit_both, fit_same, store_fit}
use Rattle.law_machine.proofs.HeapFrameLemmas.Sliding.{slid_fit}
use Rattle.law_machine.proofs.HeapFrameLemmas.Slots.{another_below, moved_below, new_below, removed_below}
use Rattle.law_machine.proofs.HeapFrameLemmas.Words.{block_fit, image_gone_fit, text_fit, word_fit}
use Rattle.law_machine.specs.heap_frame.FitAreaStores.{AreaStoreStaysFit, IsFitAreaStore}
use Rattle.law_machine.specs.heap_frame.PlanLaws.{ActsStayFit, AreActionsBelow, AreBelow, IsFitModuleState, PlansStayFit, ModuleStateStaysFit, slot_named}
use Rattle.law_machine.proofs.HeapCallsLemmas.KeptHeaps.{found_beside}

-- with the last instance of a module its image goes
image_of_fit : (e : AreaStore) (m : Module) (left : List Module) → IsFitAreaStore e → AreaStoreStaysFit e (image_gone_of e m left)
image_of_fit e m [] f = image_gone_fit e m.image f
image_of_fit e m (k ∷ left) f = fit_same e f

image_with_fit : (e : AreaStore) (slot : ℕ) (modules : List Module) → IsFitAreaStore e → AreaStoreStaysFit e (image_gone_with e slot modules)
image_with_fit e slot [] f = fit_same e f
image_with_fit e slot (m ∷ modules) f = elim (cases_Bool (has_instance slot m)) [
  | inl here ↦ rw here (image_of_fit e m (module_without slot m) f)
  | inr other ↦ rw other (image_with_fit e slot modules f)
]

removed_fit : (w : ModuleState) (slot : ℕ) → IsFitModuleState w → slot < 64 → ModuleStateStaysFit w (module_state_after_remove w slot)
unfolding module_state_after_remove
removed_fit w slot f few =
    let e : AreaStore = private_freed w.area_store slot in
    let one : AreaStoreStaysFit w.area_store e = block_fit w.area_store slot f.area_store few in
    record {
      area_store = fit_both w.area_store e (image_gone_with e slot w.modules) one (image_with_fit e slot w.modules one.fit);
      slots = removed_below slot w.modules f.slots;
    }

-- the slide: the heap's, and then the private words, each in its place
words_fit : (moves : List BlockMove) (slots : List ℕ) (e : AreaStore) → AreBelow slots → IsFitAreaStore e → AreaStoreStaysFit e (words_moved moves slots e)
words_fit moves [] e below f = fit_same e f
words_fit moves (slot ∷ slots) e below f =
    let g : AreaStore = with_private e slot (moved_to moves (private_word e slot)) in
    let one : AreaStoreStaysFit e g = word_fit e slot (moved_to moves (private_word e slot)) f below.0 in
    fit_both e g (words_moved moves slots g) one (words_fit moves slots g below.1 one.fit)

moved_fit : (w : ModuleState) (h : HeapList) (movable : List ℕ) → IsFitModuleState w → find_heap module_area_start w.area_store.store.heaps ≡ Some h
    → HoldNoHeap w.area_store.store.heaps h movable → ModuleStateStaysFit w (module_state_moved w h movable)
moved_fit w h movable f found none =
    let t : Store = with_slid w.area_store.store h movable in
    let e : AreaStore = with_store w.area_store t in
    let one : AreaStoreStaysFit w.area_store e =
    store_fit w.area_store t f.area_store (slid_fit (4096 * f.area_store.area.pages) w.area_store.store h movable f.area_store.store found none) in
    record {
      area_store = fit_both w.area_store e (words_moved (moves_in h movable) (slots_of w.modules) e) one
          (words_fit (moves_in h movable) (slots_of w.modules) e f.slots one.fit);
      slots = moved_below (moves_in h movable) w.modules f.slots;
    }

-- no heap lies in a block that can be moved
movable_empty : (s : Store) (modules : List Module) (words : List ℕ) (return_address : ℕ) (h : HeapList) → AreTotals h.items
    → HoldNoHeap s.heaps h (movable_blocks s modules words return_address h)
movable_empty s modules words return_address h totals b is =
    let holds : ℕ → ℕ → Bool = holds_heap s.heaps in
    let test : ℕ → ℕ → Bool = can_move s.anchor holds modules words return_address in
    let c : IsChosen test (h.start + 16) h.items b = chosen test (h.start + 16) h.items b totals is in
    rw c.live (payload_empty s.heaps b c.total (omega (arith, c.low)) (holds_none s.anchor holds modules words return_address (b - 4) c.total c.passes).1)

module_state_same : (w : ModuleState) → IsFitModuleState w → ModuleStateStaysFit w w
module_state_same w f = record { area_store = fit_same w.area_store f.area_store; slots = f.slots }

pub slid_module_state_fit : (return_address : ℕ) (w : ModuleState) → IsFitModuleState w → ModuleStateStaysFit w (module_state_slid return_address w)
unfolding module_state_slid
slid_module_state_fit return_address w f = of_heap (find_heap module_area_start w.area_store.store.heaps) refl where
  of_heap : (o : Option HeapList) → find_heap module_area_start w.area_store.store.heaps ≡ o → ModuleStateStaysFit w (module_state_slid_in return_address w o)
  of_heap None found = module_state_same w f
  of_heap (Some h) found =
      let s : Store = w.area_store.store in
      moved_fit w h (movable_blocks s w.modules (private_words_of w) return_address h) f found
      (movable_empty s w.modules (private_words_of w) return_address h (area_of (4096 * f.area_store.area.pages) s h f.area_store.store found).totals)

-- and it forgets no heap
pub slid_module_state_found : (return_address : ℕ) (w : ModuleState) (start : ℕ) → start ≢ module_area_start
    → find_heap start (module_state_slid return_address w).area_store.store.heaps ≡ find_heap start w.area_store.store.heaps
unfolding module_state_slid
slid_module_state_found return_address w start other = of_heap (find_heap module_area_start w.area_store.store.heaps) refl where
  of_heap : (o : Option HeapList) → find_heap module_area_start w.area_store.store.heaps ≡ o
      → find_heap start (module_state_slid_in return_address w o).area_store.store.heaps ≡ find_heap start w.area_store.store.heaps
  of_heap None found = refl
  of_heap (Some h) found =
      let s : Store = w.area_store.store in
      let movable : List ℕ = movable_blocks s w.modules (private_words_of w) return_address h in
      let e : AreaStore = with_store w.area_store (with_slid s h movable) in
      let place : h.start ≡ module_area_start = found_start module_area_start s.heaps h found in
      ap (find_heap start) (words_heaps (moves_in h movable) (slots_of w.modules) e)
      ∙ found_beside start h.start (slid (is_listed movable) (h.start + 16) (h.start + 16) h.items) s.heaps (λ is. other (is ∙ place))

pub acts_fit : ActsStayFit
acts_fit w g (act.Finalise slot fatal) f below few = module_state_same w f
acts_fit w g (act.Remove slot) f below few = removed_fit w slot f below.0
acts_fit w g (act.FreePrivate slot) f below few = record { area_store = block_fit w.area_store slot f.area_store below.0; slots = f.slots }
acts_fit w g (act.Insert slot) f below few = record {
  area_store = word_fit w.area_store slot 0 f.area_store below.0;
  slots = new_below g slot w.modules below.0 f.slots;
}
acts_fit w g (act.Instantiate slot) f below few = record {
  area_store = word_fit w.area_store slot 0 f.area_store below.0;
  slots = another_below g slot w.modules below.0 f.slots;
}
acts_fit w g act.GiveUp f below few = record { area_store = image_gone_fit w.area_store (image_given g) f.area_store; slots = f.slots }
acts_fit w g act.Slide f below few = slid_module_state_fit g.return_address w f
acts_fit w g (act.Initialise slot) f below few = record { area_store = text_fit w.area_store g.text.items f.area_store few; slots = f.slots }

-- one after another, up to the next code
abbrev GoOn : List PlanAction → Type 0
GoOn actions = (w : ModuleState) (p : Plan) → IsFitModuleState w → length p.given.text.items ≤ 255
    → ModuleStateStaysFit w (carried_from module_doing actions w p).module_state

by_code : (w : ModuleState) (p : Plan) (a : PlanAction) (actions : List PlanAction) (o : Option Code) → IsFitModuleState w → AreBelow (slot_named a)
    → length p.given.text.items ≤ 255 → GoOn actions
    → ModuleStateStaysFit w (carried_by module_doing w p a actions o (carried_from module_doing actions)).module_state
by_code w p a actions (Some code) f below few on = acts_fit w p.given a f below few
by_code w p a actions None f below few on =
    let v : ModuleState = module_state_after_action module_state_slid p.given w a in
    let q : Plan = record p { actions = actions; instead = actions_owed p.instead a; runs = false } in
    let one : ModuleStateStaysFit w v = acts_fit w p.given a f below few in
    let rest : ModuleStateStaysFit v (carried_from module_doing actions v q).module_state = on v q (record { area_store = one.area_store.fit; slots = one.slots }) few in
    record {
      area_store = fit_both w.area_store v.area_store (carried_from module_doing actions v q).module_state.area_store one.area_store rest.area_store;
      slots = rest.slots;
    }

from_fit : (actions : List PlanAction) → AreActionsBelow actions → GoOn actions
from_fit [] below w p f few = module_state_same w f
from_fit (a ∷ actions) below w p f few = by_code w p a actions (code_of w a) f below.0 few (from_fit actions below.1)

pub plans_fit : PlansStayFit
unfolding carry_of_plan
plans_fit w p f below few = from_fit p.actions below w p f few
