-- Which heaps that guests made are recorded after a move: each that lies in no block of another
-- heap; each where the move calls neither OS_Heap nor OS_Module, and no module code comes back; and
-- where OS_Heap is called, each of which the call frees no byte, and that lies in no heap of which
-- it does.
use Rattle.std.specs.Prelude.{ℕ, ◌≡◌, ◌≢◌, false, Some, None, List}
use Rattle.profile.specs.Reasons.{heap_reason}
use Rattle.profile.specs.declared.reason.HeapReason.{HeapReason}
use Rattle.profile.specs.declared.swi.SwiName.TheVariants as swi
use Rattle.arm_core.specs.State.{State, register_of}
use Rattle.profile.specs.images.Entries.{Entry}
use Rattle.os_heap_words.specs.lists.Heap.{HeapList}
use Rattle.os_heap.specs.Store.{Store, find_heap}
use Rattle.law_machine.specs.heap_calls.Forgotten.{IsForgotten}
use Rattle.law_machine.specs.heap_calls.Laws.{IsNotForgotten, LiesInBlock}
use Rattle.swi_dispatch_guest.specs.MachineState.{MachineState}
use Rattle.law_machine.specs.heap_alone.ModuleLaws.{HasAnyHeap}
use Rattle.law_machine.specs.heap_alone.ModuleMoves.{is_module_move}
use Rattle.swi_dispatch_guest.specs.Moves.{Move, core_of, machine_after_event, swi_made}

abbrev pub OuterHeapsStay : Type 0
OuterHeapsStay =
    (images : List Entry) (s : MachineState) (h : HeapList) (m : Move) → HasAnyHeap s h →
    (LiesInBlock s.store h → ⊥)
    → IsNotForgotten (machine_after_event images s m).store h.start

abbrev pub OtherMovesForgetNone : Type 0
OtherMovesForgetNone =
    (images : List Entry) (s : MachineState) (h : HeapList) (m : Move) → HasAnyHeap s h →
    swi_made s m ≢ Some swi.Heap → is_module_move s m ≡ false
    → IsNotForgotten (machine_after_event images s m).store h.start

-- OS_Heap, called with these registers, frees bytes of a block with which a heap goes.
pub record FreesHeap (s : Store) (cpu : State) (start : ℕ) : Type 0 where
  pub why : HeapReason
  pub is : heap_reason (register_of cpu 0) ≡ Some why
  pub forgotten : IsForgotten s (register_of cpu 1) why (register_of cpu 2) (register_of cpu 3) start

abbrev pub HeapCallsForgetFreed : Type 0
HeapCallsForgetFreed =
    (images : List Entry) (s : MachineState) (h : HeapList) (m : Move) → HasAnyHeap s h →
    swi_made s m ≡ Some swi.Heap
    → find_heap h.start (machine_after_event images s m).store.heaps ≡ None →
    FreesHeap s.store (core_of s m) h.start
