-- Calls of OS_Module, calls of SWIs of modules, modules that are loaded from outside, and steps in
-- which module code comes back, keep each heap that a guest made: done, or refused with an error.
-- One that lies in a block of the module area is kept unless it is forgotten, as it is with the
-- block, or with what is cut off that.
use Rattle.std.specs.Prelude.{ℕ, ◌≡◌, Bool, true, Option, Some, None, List}
use Rattle.profile.specs.images.Entries.{Entry}
use Rattle.os_heap_words.specs.lists.Heap.{HeapList}
use Rattle.os_heap.specs.Calls.{has_own_size}
use Rattle.os_heap.specs.Store.{find_heap}
use Rattle.instances_table.specs.declared.parts.Handler.{Handler}
use Rattle.law_machine.specs.heap_calls.Laws.{IsNotForgotten, KeepsHeap}
use Rattle.law_machine.specs.heap_frame.Fits.{LiesInArea}
use Rattle.swi_dispatch_guest.specs.Gates.{outcome_of_gate}
use Rattle.swi_dispatch_guest.specs.MachineState.{MachineState}
use Rattle.swi_dispatch_guest.specs.Step.{outcome_of_module_swi, module_loaded, os_module_called}
use Rattle.swi_dispatch_guest.specs.Moves.{Move, machine_with_words, machine_after_event}
use Rattle.swi_dispatch_guest.specs.GuestState.{IsState}
use Rattle.law_machine.specs.heap_alone.ModuleMoves.{is_module_move}

-- A machine that isn't halted, with a heap that a guest made, whatever lies in it.
pub record HasAnyHeap (s : MachineState) (h : HeapList) : Type 0 where
  pub state : IsState s
  pub goes : s.halt ≡ None
  pub found : find_heap h.start s.store.heaps ≡ Some h
  pub own : has_own_size h.kind ≡ true

-- A call is made with words in the first registers, or by an instruction, with none: with the X bit
-- or without.
abbrev pub ModuleCallsKeepHeap : Type 0
ModuleCallsKeepHeap =
    (images : List Entry) (s : MachineState) (h : HeapList) (words : List ℕ) (x : Bool) (next number : ℕ) →
    HasAnyHeap s h
    → (LiesInArea s.store h → IsNotForgotten (os_module_called images
    (machine_with_words s words) x next number).now.store h.start)
    → KeepsHeap h s.store (os_module_called images (machine_with_words s words) x next number).now.store

-- The handler of a module's SWI is entered, unless none has the number or too many frames are open.
-- So no heap is forgotten.
abbrev pub ModuleSwisKeepHeap : Type 0
ModuleSwisKeepHeap =
    (s : MachineState) (h : HeapList) (words : List ℕ) (x : Bool) (next number : ℕ)
    (handler : Option Handler) → HasAnyHeap s h
    → KeepsHeap h s.store (outcome_of_module_swi (machine_with_words s words) x next number handler).now.store

abbrev pub LoadsKeepHeap : Type 0
LoadsKeepHeap =
    (images : List Entry) (s : MachineState) (h : HeapList) (text : List ℕ) → HasAnyHeap s h
    → (LiesInArea s.store h → IsNotForgotten (module_loaded images s text).now.store h.start)
    → KeepsHeap h s.store (module_loaded images s text).now.store

-- Module code comes back: a SWI goes back, or an initialisation or a finalisation, whose call is
-- carried on.
abbrev pub GatesKeepHeap : Type 0
GatesKeepHeap =
    (s : MachineState) (h : HeapList) → HasAnyHeap s h →
    (LiesInArea s.store h → IsNotForgotten (outcome_of_gate s).now.store h.start)
    → KeepsHeap h s.store (outcome_of_gate s).now.store

-- So does each move of these kinds.
abbrev pub ModuleMovesKeepHeap : Type 0
ModuleMovesKeepHeap =
    (images : List Entry) (s : MachineState) (h : HeapList) (m : Move) → HasAnyHeap s h →
    is_module_move s m ≡ true
    → (LiesInArea s.store h → IsNotForgotten (machine_after_event images s m).store h.start) →
    KeepsHeap h s.store (machine_after_event images s m).store
