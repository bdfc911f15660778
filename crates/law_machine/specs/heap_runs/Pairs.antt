-- Lists of moves made on two machines: where the heap alone is the same and is asked the same, it
-- answers the same, whatever else goes on in each.
use Rattle.swi_dispatch_guest.specs.Moves.{Move}
use Rattle.std.specs.Prelude.{ℕ, ◌≡◌, List}
use Rattle.profile.specs.images.Entries.{Entry}
use Rattle.os_heap_words.specs.lists.Heap.{HeapList}
use Rattle.law_machine.specs.heap_calls.Alone.{alone_in}
use Rattle.swi_dispatch_guest.specs.MachineState.{MachineState}
use Rattle.law_machine.specs.heap_alone.Laws.{MachinesAnswerAlike}
use Rattle.law_machine.specs.heap_alone.Moves.{calls_in}
use Rattle.law_machine.specs.declared.heap_runs.moves.Reply.{Reply}
use Rattle.law_machine.specs.heap_runs.Making.{AreAside, StateHasHeapAt, LeaveWhole}

-- a machine as it was, with the moves that were done on it and what the heap at an address answered
pub record Side : Type 0 where
  pub images : List Entry
  pub start : ℕ
  pub state : MachineState
  pub moves : List Move
  pub answers : List Reply

-- a heap of a guest stands there, and the moves leave it to itself, and whole
pub record IsAlone (side : Side) (h : HeapList) : Type 0 where
  pub here : StateHasHeapAt side.state side.start h
  pub aside : AreAside side.images side.start side.state side.moves
  pub whole : LeaveWhole side.images side.start side.state side.moves

-- The heap is the same in both, and is asked the same.
pub record AreAsked (one two : Side) (h k : HeapList) : Type 0 where
  pub heap : alone_in one.state.store h ≡ alone_in two.state.store k
  pub calls : calls_in one.images h.start one.state one.moves
      ≡ calls_in two.images k.start two.state two.moves

pub record AreAnswered (one two : Side) (h k : HeapList) : Type 0 where
  pub alike : MachinesAnswerAlike one.images two.images one.state two.state h k one.moves two.moves
  pub answers : one.answers ≡ two.answers

abbrev pub AreAlike : Side → Side → Type 0
AreAlike one two = (h k : HeapList) → IsAlone one h → IsAlone two k → AreAsked one two h k →
    AreAnswered one two h k
