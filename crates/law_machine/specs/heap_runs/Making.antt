-- A list of moves made on a machine: how far it was made, what the machine then is, and what the
-- heap at an address answered, which is what it answers by itself.
use Rattle.swi_dispatch_guest.specs.Moves.{Move, machine_after_event, moved_all}
use Rattle.std.specs.Prelude.{ℕ, ◌≡◌, ◌≤◌, ◌<◌, ◌+◌, ◌-◌, true, false, Option, Some, None, option_map, List, [], ◌∷◌, length, take}
use Rattle.profile.specs.declared.stop.Stop.{Stop}
use Rattle.profile.specs.images.Entries.{Entry}
use Rattle.os_heap_words.specs.lists.Heap.{HeapList}
use Rattle.os_heap.specs.Calls.{has_own_size}
use Rattle.os_heap.specs.Store.{find_heap}
use Rattle.law_machine.specs.heap_calls.Alone.{alone_in}
use Rattle.law_machine.specs.heap_calls.Laws.{HeapHasNoAnchor, HoldsNoHeap, IsLeftWhole}
use Rattle.law_machine.specs.heap_calls.Turns.{replies}
use Rattle.swi_dispatch_guest.specs.declared.halt.Halt.{Halt}
use Rattle.swi_dispatch_guest.specs.MachineState.{MachineState, stop_of}
use Rattle.swi_dispatch_guest.specs.GuestState.{IsState}
use Rattle.law_machine.specs.heap_alone.Laws.{IsAside, MachineHeapStandsAlone}
use Rattle.law_machine.specs.heap_alone.Moves.{answers_in, calls_in, is_own}
use Rattle.law_machine.specs.declared.heap_runs.moves.End.{End}
use Rattle.law_machine.specs.declared.heap_runs.moves.End.TheVariants as end
use Rattle.law_machine.specs.declared.heap_runs.moves.Reply.{Reply}
use Rattle.law_machine.specs.heap_runs.Moves.{noted_all}

-- Of a list the moves that were made, and those of them that were done: where it ended early, all
-- but the last.
abbrev pub made_of : End → ℕ → List Move → List Move
made_of end.All count moves = moves
made_of end.Full count moves = take count moves
made_of (end.Halted stop) count moves = take count moves

abbrev pub done_of : End → ℕ → List Move → List Move
done_of end.All count moves = moves
done_of end.Full count moves = take (count - 1) moves
done_of (end.Halted stop) count moves = take (count - 1) moves

-- a machine's state that isn't halted
pub record StateGoesOn (s : MachineState) : Type 0 where
  pub state : IsState s
  pub goes : s.halt ≡ None

-- Each move of a list goes on in such a state.
abbrev pub AreGoing : List Entry → MachineState → List Move → Type 0
AreGoing images s [] = Unit {0}
AreGoing images s (m ∷ ms) = StateGoesOn (machine_after_event images s m) ×
    AreGoing images (machine_after_event images s m) ms

-- A heap that a guest made stands at an address, and no anchor and no heap lies in it.
pub record StateHasHeapAt (s : MachineState) (start : ℕ) (h : HeapList) : Type 0 where
  pub starts : h.start ≡ start
  pub found : find_heap start s.store.heaps ≡ Some h
  pub own : has_own_size h.kind ≡ true
  pub anchors : HeapHasNoAnchor s.store h
  pub alone : HoldsNoHeap s.store h

-- Each move of a list leaves the heap that is found at an address to itself.
abbrev pub AreAside : List Entry → ℕ → MachineState → List Move → Type 0
AreAside images start s [] = Unit {0}
AreAside images start s (m ∷ ms) =
    ((h : HeapList) → find_heap start s.store.heaps ≡ Some h → IsAside s h m) ×
    AreAside images start (machine_after_event images s m) ms

-- Each that is no call on that heap from outside leaves it whole: none forgets it, and none makes a
-- heap in it.
abbrev pub LeaveWhole : List Entry → ℕ → MachineState → List Move → Type 0
LeaveWhole images start s [] = Unit {0}
LeaveWhole images start s (m ∷ ms) =
    (is_own start s m ≡ false → IsLeftWhole (machine_after_event images s m).store start) ×
    LeaveWhole images start (machine_after_event images s m) ms

-- The heap answered what it answers by itself, and is what its own calls alone leave of it.
pub record IsByItself (images : List Entry) (s : MachineState) (h : HeapList) (moves : List Move)
    (reported : List Reply) : Type 0 where
  pub stands : MachineHeapStandsAlone images s h moves
  pub answers : reported ≡ noted_all (replies (alone_in s.store h) (calls_in images h.start s moves))

abbrev pub StandsByItself : List Entry → ℕ → MachineState → List Move → List Reply → Type 0
StandsByItself images start s moves reported =
    (h : HeapList) → StateHasHeapAt s start h → AreAside images start s moves →
    LeaveWhole images start s moves → IsByItself images s h moves reported

-- Why it ended, after so many of all moves: the last of these asked for one answer more than there
-- is room for, or the machine is halted.
abbrev pub EndsBy : End → (count all asked most : ℕ) → Option Halt → Type 0
EndsBy end.All count all asked most halt = (count ≡ all) × (halt ≡ None)
EndsBy end.Full count all asked most halt = (count ≤ all) × (asked ≡ most + 1) × (halt ≡ None)
EndsBy (end.Halted stop) count all asked most halt = (count ≤ all) × (option_map stop_of halt ≡ Some stop)

-- A list of moves, made from one state on as far as it was, to another.
pub record AreMade (images : List Entry) (start : ℕ) (s t : MachineState) (moves : List Move) (most count : ℕ)
    (end : End) (reported : List Reply) : Type 0 where
  pub begins : 0 < count → s.halt ≡ None
  pub goes : AreGoing images s (done_of end count moves)
  pub machine : t ≡ moved_all images s (made_of end count moves)
  pub answers : reported ≡ noted_all (answers_in images start s (done_of end count moves))
  pub alone : StandsByItself images start s (done_of end count moves) reported
  pub ends : EndsBy end count (length moves) (length (answers_in images start s
      (made_of end count moves))) most t.halt
