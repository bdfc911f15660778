-- Which heaps the calls on the module area forget, with bytes of its blocks: a claim none, and a
-- release or a change of size just those of which it frees a byte, and those in them. So does the
-- removal of an instance, with the block that its private word names.
use Rattle.profile.specs.MemoryMap.{module_area_start}
use Rattle.std.specs.Prelude.{ℕ, ◌≡◌, ◌↔◌, Bool, true, false, is_ok, List, Some, None, Ok}
use Rattle.profile.specs.declared.reason.HeapReason.TheVariants as reason
use Rattle.address_map.specs.Bytes.{word_start}
use Rattle.address_map.specs.Items.{is_heap_word}
use Rattle.os_heap_words.specs.lists.Heap.{HeapList}
use Rattle.os_heap.specs.Store.{IsSound, find_heap}
use Rattle.dynamic_areas.specs.Ground.{AreaStore, IsAreaStore}
use Rattle.rma.specs.Calls.{rma_claimed, rma_extended, rma_freed}
use Rattle.rma.specs.NewImages.{image_copied, image_made}
use Rattle.instances_table.specs.declared.plans.action.PlanAction.{PlanAction}
use Rattle.instances_table.specs.declared.plans.action.PlanAction.TheVariants as act
use Rattle.instances_table.specs.declared.plans.given.Given.{Given}
use Rattle.instances.specs.module_state.ModuleState.{ModuleState, private_freed, private_word}
use Rattle.instances.specs.tidying.Slid.{module_state_slid}
use Rattle.instances.specs.actions.Actions.{module_state_after_action}
use Rattle.law_machine.specs.heap_calls.Forgotten.{IsForgotten}
use Rattle.law_machine.specs.heap_calls.Laws.{IsNotForgotten}

pub record AreaCallForgets (d e : AreaStore) (k : HeapList) : Type 0 where
  pub claim : (size block : ℕ) → rma_claimed d size ≡ Ok (e, block) → IsNotForgotten e.store k.start
  pub make_image : (image : List ℕ) (at : ℕ) → image_made d image ≡ Ok (e, at) →
      IsNotForgotten e.store k.start
  pub copy_image : (from len at : ℕ) → image_copied d from len ≡ Ok (e, at) → IsNotForgotten e.store k.start
  pub free : (block : ℕ) → rma_freed d block ≡ Ok (e, tt)
      → (find_heap k.start e.store.heaps ≡ None) ↔
      IsForgotten d.store module_area_start reason.Free block 0 k.start
  pub extend : (block change new : ℕ) → rma_extended d block change ≡ Ok (e, new)
      → (find_heap k.start e.store.heaps ≡ None) ↔
      IsForgotten d.store module_area_start reason.Resize block change k.start

abbrev pub AreaCallsForgetHeaps : Type 0
AreaCallsForgetHeaps = (d e : AreaStore) (k : HeapList) → IsAreaStore d → find_heap k.start d.store.heaps ≡
    Some k →
    AreaCallForgets d e k

-- The block that a private word names is given back, if it is one that can be.
pub record GoesWithBlock (d : AreaStore) (slot start : ℕ) : Type 0 where
  pub done : is_ok (rma_freed d (private_word d slot)) ≡ true
  pub forgotten : IsForgotten d.store module_area_start reason.Free (private_word d slot) 0 start

abbrev pub RemovalsForgetHeaps : Type 0
RemovalsForgetHeaps =
    (d : AreaStore) (k : HeapList) (slot : ℕ) → IsAreaStore d → find_heap k.start d.store.heaps ≡ Some k
    → (find_heap k.start (private_freed d slot).store.heaps ≡ None) ↔ GoesWithBlock d slot k.start

-- A release changes no byte but those of the words that the area's new list spells: a forgotten
-- heap's bytes stay.
abbrev pub ReleasesKeepBytes : Type 0
ReleasesKeepBytes =
    (d e : AreaStore) (g : HeapList) (block a : ℕ) → IsAreaStore d → IsSound e.store →
    rma_freed d block ≡ Ok (e, tt)
    → find_heap module_area_start e.store.heaps ≡ Some g →
    is_heap_word module_area_start g.items (word_start a) ≡ false →
    e.store.bytes.at a ≡ d.store.bytes.at a

-- The actions of a plan that give a block back: an instance is removed, the block of its private
-- word goes, or a new image is given up. No other action forgets a heap, the slide among them.
abbrev pub gives_back : PlanAction → Bool
gives_back (act.Remove slot) = true
gives_back (act.FreePrivate slot) = true
gives_back act.GiveUp = true
gives_back other = false

abbrev pub OtherActsForgetNone : Type 0
OtherActsForgetNone =
    (w : ModuleState) (g : Given) (a : PlanAction) (k : HeapList) → gives_back a ≡ false →
    find_heap k.start w.area_store.store.heaps ≡ Some k
    → IsNotForgotten (module_state_after_action module_state_slid g w a).area_store.store k.start
