-- A guest's heap stands alone: whatever else a machine does, short of making a heap in it or
-- freeing the block that it lies in, calls on the heap answer by the heap's own list and bytes.
use Rattle.swi_dispatch_guest.specs.Moves.{Move, Step, core_of, machine_after_event, moved_all, swi_made}
use Rattle.std.specs.Prelude.{ℕ, ◌≡◌, ◌≢◌, true, false, Option, Some, None, option_map, List, [], ◌∷◌}
use Rattle.profile.specs.declared.swi.SwiName.TheVariants as swi
use Rattle.address_map.specs.Bytes.{in_range}
use Rattle.arm_core.specs.State.{register_of}
use Rattle.profile.specs.images.Entries.{Entry}
use Rattle.os_heap_words.specs.lists.Heap.{HeapList}
use Rattle.os_heap.specs.Calls.{has_own_size}
use Rattle.os_heap.specs.Store.{Store, find_heap}
use Rattle.law_machine.specs.heap_calls.Alone.{Alone, alone_in}
use Rattle.law_machine.specs.heap_calls.Laws.{HeapHasNoAnchor, HoldsNoHeap, IsLeftWhole}
use Rattle.law_machine.specs.heap_calls.Turns.{heap_after_calls, replies}
use Rattle.swi_dispatch_guest.specs.MachineState.{MachineState}
use Rattle.swi_dispatch_guest.specs.GuestState.{IsState}
use Rattle.law_machine.specs.heap_alone.Moves.{answers_in, calls_in, is_own}
use Rattle.law_machine.specs.heap_alone.Storing.{is_stored}

-- A machine that isn't halted, with a heap that a guest made and in which no anchor and no heap
-- lies. It may lie in a block itself.
pub record HasHeap (s : MachineState) (h : HeapList) : Type 0 where
  pub state : IsState s
  pub goes : s.halt ≡ None
  pub found : find_heap h.start s.store.heaps ≡ Some h
  pub own : has_own_size h.kind ≡ true
  pub anchors : HeapHasNoAnchor s.store h
  pub alone : HoldsNoHeap s.store h

-- A move that leaves the heap to itself: no instruction stores into it, no step calls OS_Heap with
-- it in R1, and no flex block gets an anchor in it.
pub record IsAside (s : MachineState) (h : HeapList) (m : Move) : Type 0 where
  pub stores : m ≡ Step → (a : ℕ) → in_range h.start h.end a ≡ true → is_stored s.cpu s.store.bytes a ≡ false
  pub calls : m ≡ Step → swi_made s m ≡ Some swi.Heap → register_of s.cpu 1 ≢ h.start
  pub anchors : swi_made s m ≡ Some swi.FlexAlloc → in_range h.start h.end (register_of (core_of s m) 0)
      ≡ false

-- Each move of a list leaves the heap that is found at `start` to itself, and goes on in a
-- machine's state that isn't halted. Those that are no calls on it from outside leave it whole:
-- none forgets it, and none makes a heap in it.
pub record IsMoveDone (images : List Entry) (start : ℕ) (s : MachineState) (m : Move) : Type 0 where
  pub aside : (h : HeapList) → find_heap start s.store.heaps ≡ Some h → IsAside s h m
  pub left : is_own start s m ≡ false → IsLeftWhole (machine_after_event images s m).store start
  pub state : IsState (machine_after_event images s m)
  pub goes : (machine_after_event images s m).halt ≡ None

abbrev pub AreMovesDone : List Entry → ℕ → MachineState → List Move → Type 0
AreMovesDone images start s [] = Unit {0}
AreMovesDone images start s (m ∷ ms) = IsMoveDone images start s m ×
    AreMovesDone images start (machine_after_event images s m) ms

-- the heap alone, if there is one at an address
abbrev pub alone_at : ℕ → Store → Option Alone
alone_at start s = option_map (alone_in s) (find_heap start s.heaps)

-- The answers to the heap's own calls are those that the heap gives alone, and at the end the heap
-- is what these calls alone leave of it.
pub record MachineHeapStandsAlone (images : List Entry) (s : MachineState) (h : HeapList)
    (moves : List Move) : Type 0 where
  pub answers : answers_in images h.start s moves ≡ replies (alone_in s.store h)
      (calls_in images h.start s moves)
  pub heap : alone_at h.start (moved_all images s moves).store
      ≡ Some (heap_after_calls (alone_in s.store h) (calls_in images h.start s moves))

-- A guest's heap stands alone, whatever else is called and done.
abbrev pub MachineHeapsStandAlone : Type 0
MachineHeapsStandAlone =
    (images : List Entry) (s : MachineState) (h : HeapList) (moves : List Move) → HasHeap s h →
    AreMovesDone images h.start s moves
    → MachineHeapStandsAlone images s h moves

-- So two machines in which the heap alone is the same, and is asked the same, with other moves
-- between: their answers are the same, and so is the heap at the end.
pub record MachinesAnswerAlike (images images' : List Entry) (s t : MachineState) (h k : HeapList)
    (moves moves' : List Move) : Type 0 where
  pub answers : answers_in images h.start s moves ≡ answers_in images' k.start t moves'
  pub heap : alone_at h.start (moved_all images s moves).store
      ≡ alone_at k.start (moved_all images' t moves').store

abbrev pub ModuleStatesAnswerAlike : Type 0
ModuleStatesAnswerAlike =
    (images images' : List Entry) (s t : MachineState) (h k : HeapList) (moves moves' : List Move)
    → HasHeap s h → AreMovesDone images h.start s moves → HasHeap t k → AreMovesDone images' k.start t moves'
    → alone_in s.store h ≡ alone_in t.store k → calls_in images h.start s moves
    ≡ calls_in images' k.start t moves'
    → MachinesAnswerAlike images images' s t h k moves moves'
