-- Which bytes of live blocks change: those that an instruction stores to, where no store call keeps
-- records; by a call of OS_Heap those of a heap that lies in the block, and no others; and for a
-- heap that a guest made and in which no heap lies, no others by any move (RISC OS 3 Programmer's
-- Reference Manual, "OS_Heap": a block is its claimer's until it is given back).
use Rattle.std.specs.Prelude.{ℕ, ◌≡◌, ◌-◌, ◌+◌, ◌⊎◌, true, false, List, Some, None, Ok}
use Rattle.profile.specs.declared.swi.SwiName.TheVariants as swi
use Rattle.address_map.specs.Bytes.{Bytes, in_range}
use Rattle.arm_core.specs.State.{State, register_of}
use Rattle.profile.specs.images.Entries.{Entry}
use Rattle.os_heap_words.specs.lists.Heap.{HeapList}
use Rattle.os_heap_words.specs.lists.Lists.{live_total}
use Rattle.os_heap.specs.Laws.{KeepsPayloads}
use Rattle.os_heap.specs.Store.{find_heap, owned_in}
use Rattle.law_machine.specs.heap_calls.Laws.{HoldsNoHeap}
use Rattle.swi_dispatch_guest.specs.MachineState.{MachineState}
use Rattle.swi_dispatch_guest.specs.Step.{result_of_instruction}
use Rattle.law_machine.specs.heap_alone.Laws.{HasHeap}
use Rattle.swi_dispatch_guest.specs.Moves.{Move, Step, core_of, machine_after_event, swi_made}
use Rattle.swi_dispatch_guest.specs.GuestState.{IsState}
use Rattle.law_machine.specs.heap_alone.Storing.{is_stored}

-- the instruction at the program counter stores to a byte, and the byte belongs to no record that
-- store calls keep
abbrev pub IsStoredPlain : MachineState → ℕ → Type 0
IsStoredPlain s a = (is_stored s.cpu s.store.bytes a ≡ true) × (owned_in s.store a ≡ false)

-- A step that does an instruction changes a byte only where the instruction stores, and only in a
-- word that isn't owned.
abbrev pub InstructionsChangeStored : Type 0
InstructionsChangeStored =
    (images : List Entry) (s : MachineState) (w : State × Bytes) (a : ℕ) → s.halt ≡ None →
    result_of_instruction s ≡ Ok w
    → ((machine_after_event images s Step).store.bytes.at a ≡ s.store.bytes.at a) ⊎ IsStoredPlain s a

-- A call of OS_Heap, from outside or by an instruction, done or refused: a block of the heap in R1
-- that was live and is so still holds what it held, and so does each block of each other heap, but
-- for bytes that the heap in R1 has in its range.
abbrev pub HeapCallsKeepLiveBytes : Type 0
HeapCallsKeepLiveBytes =
    (images : List Entry) (s : MachineState) (m : Move) → IsState s → s.halt ≡ None →
    swi_made s m ≡ Some swi.Heap → IsState (machine_after_event images s m)
    → KeepsPayloads s.store (machine_after_event images s m).store (register_of (core_of s m) 1)

-- Of a heap that a guest made, in which no anchor lies or is named, and no heap lies, nor is made
-- by the move: over each move, a block that was live and is so still holds what it held, but for
-- bytes that the move's instruction stores to.
abbrev pub MovesKeepLiveBytes : Type 0
MovesKeepLiveBytes =
    (images : List Entry) (s : MachineState) (h g : HeapList) (m : Move) (block total new_total a : ℕ) →
    HasHeap s h → IsState (machine_after_event images s m)
    → (swi_made s m ≡ Some swi.FlexAlloc → in_range h.start h.end (register_of (core_of s m) 0) ≡ false)
    → find_heap h.start (machine_after_event images s m).store.heaps ≡ Some g →
    HoldsNoHeap (machine_after_event images s m).store g
    → live_total block (h.start + 16) h.items ≡ Some total →
    live_total block (h.start + 16) g.items ≡ Some new_total
    → in_range block (total - 4) a ≡ true → in_range block (new_total - 4) a ≡ true
    → ((machine_after_event images s m).store.bytes.at a ≡ s.store.bytes.at a) ⊎
    ((m ≡ Step) × IsStoredPlain s a)
