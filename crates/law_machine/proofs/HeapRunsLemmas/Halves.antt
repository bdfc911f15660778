-- What a heap answers by itself over the moves of a list that were done.
use Rattle.swi_dispatch_guest.specs.Moves.{Move, machine_after_event}
use Rattle.std.proofs.Common.{ℕ, ◌≡◌, ◌∙◌, List, [], ◌∷◌, map, Some, None, refl, sym, ap, subst}
use Rattle.profile.specs.images.Entries.{Entry}
use Rattle.os_heap_words.specs.lists.Heap.{HeapList}
use Rattle.os_heap.specs.Store.{find_heap}
use Rattle.law_machine.specs.heap_calls.Alone.{Alone, HeapCall, alone_in}
use Rattle.law_machine.specs.heap_calls.Turns.{Reply as WrittenReply, heap_after_calls, replies}
use Rattle.swi_dispatch_guest.specs.MachineState.{MachineState}
use Rattle.law_machine.proofs.HeapAloneLemmas.Keeping.{found_alone}
use Rattle.law_machine.proofs.HeapAloneLemmas.Lists.{stand_alone}
use Rattle.law_machine.specs.heap_alone.Laws.{AreMovesDone, HasHeap, MachineHeapStandsAlone}
use Rattle.law_machine.specs.heap_alone.Moves.{answers_in, calls_in}
use Rattle.law_machine.specs.heap_runs.Making.{AreAside, AreGoing, StateGoesOn, StateHasHeapAt, IsByItself, LeaveWhole, StandsByItself}
use Rattle.law_machine.specs.heap_runs.Moves.{noted_all}
use Rattle.law_machine.specs.heap_runs.Pairs.{AreAlike, Side}
use Rattle.law_machine.specs.declared.heap_runs.moves.Reply.{Reply}

moves_done : (images : List Entry) (start : ℕ) (s : MachineState) (moves : List Move) → AreGoing images s moves → AreAside images start s moves
    → LeaveWhole images start s moves → AreMovesDone images start s moves
moves_done images start s [] going aside whole = tt
moves_done images start s (m ∷ ms) going aside whole = (
  record { aside = aside.0; left = whole.0; state = going.0.state; goes = going.0.goes },
  moves_done images start (machine_after_event images s m) ms going.1 aside.1 whole.1,
)

found_at : (s : MachineState) (start : ℕ) (h : HeapList) → StateHasHeapAt s start h → find_heap h.start s.store.heaps ≡ Some h
found_at s start h has = subst (λ (a : ℕ). find_heap a s.store.heaps ≡ Some h) (sym has.starts) has.found

pub by_itself : (images : List Entry) (start : ℕ) (s : MachineState) (moves : List Move) (answers : List Reply) → StateGoesOn s → AreGoing images s moves
    → answers ≡ noted_all (answers_in images start s moves) → StandsByItself images start s moves answers
by_itself images start s moves answers begins going is = λ h has aside whole.
    let here : HasHeap s h = record {
      state = begins.state;
      goes = begins.goes;
      found = found_at s start h has;
      own = has.own;
      anchors = has.anchors;
      alone = has.alone;
    } in
    let all : AreMovesDone images h.start s moves =
    subst (λ (a : ℕ). AreMovesDone images a s moves) (sym has.starts) (moves_done images start s moves going aside whole) in
    let stands : MachineHeapStandsAlone images s h moves = stand_alone images s h moves here all in
    record {
      stands = stands;
      answers =
          is ∙ ap (λ (a : ℕ). noted_all (answers_in images a s moves)) (sym has.starts)
          ∙ ap noted_all stands.answers;
    }

-- where no move was done
pub still_by_itself : (images : List Entry) (start : ℕ) (s : MachineState) → StandsByItself images start s [] []
still_by_itself images start s = λ h has aside whole.
    record {
      stands = record { answers = refl; heap = found_alone h s.store (found_at s start h has) };
      answers = refl;
    }

pub are_alike : (one two : Side) → StandsByItself one.images one.start one.state one.moves one.answers
    → StandsByItself two.images two.start two.state two.moves two.answers → AreAlike one two
are_alike one two first second = λ h k here there same.
    let a : IsByItself one.images one.state h one.moves one.answers = first h here.here here.aside here.whole in
    let b : IsByItself two.images two.state k two.moves two.answers = second k there.here there.aside there.whole in
    let w : Alone = alone_in one.state.store h in
    let v : Alone = alone_in two.state.store k in
    let cs : List HeapCall = calls_in one.images h.start one.state one.moves in
    let ds : List HeapCall = calls_in two.images k.start two.state two.moves in
    let reported : replies w cs ≡ replies v ds = ap (λ (x : Alone). replies x cs) same.heap ∙ ap (replies v) same.calls in
    record {
      alike = record {
        answers = a.stands.answers ∙ reported ∙ sym b.stands.answers;
        heap =
            a.stands.heap ∙ ap (λ (x : Alone). Some (heap_after_calls x cs)) same.heap
            ∙ ap (λ (xs : List HeapCall). Some (heap_after_calls v xs)) same.calls ∙ sym b.stands.heap;
      };
      answers = a.answers ∙ ap noted_all reported ∙ sym b.answers;
    }
