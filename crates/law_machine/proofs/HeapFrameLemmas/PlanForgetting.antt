-- Which heaps the actions of plans forget: those that give no block back none.
use Rattle.profile.specs.MemoryMap.{module_area_start}
use Rattle.std.proofs.Common.{ℕ, ◌+◌, ◌∙◌, List, [], ◌∷◌, is_some, Option, Some, None, sym, ap}
use Rattle.std.proofs.lemmas.Bool.{false≢true}
use Rattle.address_map.specs.Moves.{moved_to}
use Rattle.address_map.specs.declared.follow.BlockMove.{BlockMove}
use Rattle.os_heap_words.specs.lists.Heap.{HeapList}
use Rattle.os_heap.proofs.LostRecords.{found_listed}
use Rattle.os_heap.specs.Store.{Store, find_heap}
use Rattle.rma.specs.heap_slide.Slide.{is_listed, slid, with_slid}
use Rattle.dynamic_areas.specs.Ground.{AreaStore}
use Rattle.rma.specs.Calls.{with_store}
use Rattle.instances_table.specs.Modules.{slots_of}
use Rattle.instances_table.specs.declared.plans.action.PlanAction.TheVariants as act
use Rattle.instances.specs.module_state.ModuleState.{ModuleState, private_word, with_private}
use Rattle.instances.specs.tidying.Movable.{movable_blocks}
use Rattle.instances.specs.tidying.Slid.{moves_in, private_words_of, words_moved, module_state_slid, module_state_slid_in}
use Rattle.law_machine.specs.heap_calls.Laws.{IsNotForgotten}
use Rattle.law_machine.specs.heap_frame.ForgettingLaws.{OtherActsForgetNone}

-- the actions that give no block back
words_stay : (moves : List BlockMove) (slots : List ℕ) (e : AreaStore) (start : ℕ) → IsNotForgotten e.store start
    → IsNotForgotten (words_moved moves slots e).store start
words_stay moves [] e start stays = stays
words_stay moves (slot ∷ slots) e start stays = words_stay moves slots (with_private e slot (moved_to moves (private_word e slot))) start stays

slide_stays : (w : ModuleState) (return_address start : ℕ) (o : Option HeapList) → IsNotForgotten w.area_store.store start
    → IsNotForgotten (module_state_slid_in return_address w o).area_store.store start
slide_stays w return_address start None stays = stays
slide_stays w return_address start (Some h) stays =
    let movable : List ℕ = movable_blocks w.area_store.store w.modules (private_words_of w) return_address h in
    let t : Store = with_slid w.area_store.store h movable in
    words_stay (moves_in h movable) (slots_of w.modules) (with_store w.area_store t) start
    (found_listed h.start start (slid (is_listed movable) (h.start + 16) (h.start + 16) h.items) w.area_store.store.heaps ∙ stays)

slid_stays : (w : ModuleState) (return_address start : ℕ) → IsNotForgotten w.area_store.store start → IsNotForgotten (module_state_slid return_address w).area_store.store start
unfolding module_state_slid
slid_stays w return_address start stays = slide_stays w return_address start (find_heap module_area_start w.area_store.store.heaps) stays

pub acts_forget_none : OtherActsForgetNone
acts_forget_none w g (act.Finalise slot fatal) k keeps found = ap is_some found
acts_forget_none w g (act.Remove slot) k keeps found = absurd (false≢true (sym keeps))
acts_forget_none w g (act.FreePrivate slot) k keeps found = absurd (false≢true (sym keeps))
acts_forget_none w g (act.Insert slot) k keeps found = ap is_some found
acts_forget_none w g (act.Instantiate slot) k keeps found = ap is_some found
acts_forget_none w g act.GiveUp k keeps found = absurd (false≢true (sym keeps))
acts_forget_none w g act.Slide k keeps found = slid_stays w g.return_address k.start (ap is_some found)
acts_forget_none w g (act.Initialise slot) k keeps found = ap is_some found
