-- Lists of moves: by their first move, and the others from the state that it leaves.
use Rattle.swi_dispatch_guest.specs.Moves.{Move, machine_after_event, moved_all}
use Rattle.std.proofs.Common.{ℕ, ◌≡◌, ◌++◌, ◌∙◌, Bool, true, false, List, [], ◌∷◌, Some, refl, sym, ap, subst, inl, inr, if◌then◌else◌}
use Rattle.std.proofs.lemmas.Bool.{cases_Bool}
use Rattle.profile.specs.images.Entries.{Entry}
use Rattle.os_heap_words.specs.lists.Heap.{HeapList}
use Rattle.law_machine.specs.heap_calls.Alone.{Alone, HeapCall, alone_in}
use Rattle.law_machine.proofs.HeapCallsLemmas.NoHeapInside.{whole_alone}
use Rattle.law_machine.specs.heap_calls.Laws.{KeepsHeap}
use Rattle.law_machine.specs.heap_calls.Turns.{Reply, heap_after_calls, replies, turn_of_call}
use Rattle.swi_dispatch_guest.specs.MachineState.{MachineState}
use Rattle.law_machine.proofs.HeapAloneLemmas.Keeping.{found_alone, kept_alone}
use Rattle.law_machine.proofs.HeapAloneLemmas.OwnCalls.{OwnCall, Stands, own_call}
use Rattle.law_machine.proofs.HeapAloneLemmas.Steps.{move_keeps}
use Rattle.law_machine.specs.heap_alone.Laws.{AreMovesDone, HasHeap, MachineHeapsStandAlone, IsMoveDone, MachineHeapStandsAlone, ModuleStatesAnswerAlike, alone_at}
use Rattle.law_machine.specs.heap_alone.Moves.{answers_in, asked_by, calls_in, is_own, reply_of_machine}

-- what is shown of a list, from any heap alone
record IsShown (images : List Entry) (s : MachineState) (start : ℕ) (w : Alone) (moves : List Move) : Type 0 where
  answers : answers_in images start s moves ≡ replies w (calls_in images start s moves)
  heap : alone_at start (moved_all images s moves).store ≡ Some (heap_after_calls w (calls_in images start s moves))

module _ (images : List Entry) (s : MachineState) (h : HeapList) (m : Move) (ms : List Move) where
  own_shown : (call : HeapCall) → is_own h.start s m ≡ true → asked_by h.start s m ≡ call ∷ []
      → reply_of_machine (machine_after_event images s m) ≡ (turn_of_call (alone_in s.store h) call).reply
      → IsShown images (machine_after_event images s m) h.start (turn_of_call (alone_in s.store h) call).now ms → IsShown images s h.start (alone_in s.store h) (m ∷ ms)
  own_shown call own asks replies_so reported =
      let cs : List HeapCall = calls_in images h.start (machine_after_event images s m) ms in
      let calls : calls_in images h.start s (m ∷ ms) ≡ call ∷ cs =
      ap (λ (b : Bool). (if b then asked_by h.start s m else []) ++ cs) own ∙ ap (λ (xs : List HeapCall). xs ++ cs) asks in
      let answers : answers_in images h.start s (m ∷ ms) ≡ reply_of_machine (machine_after_event images s m) ∷ answers_in images h.start (machine_after_event images s m) ms =
      ap (λ (b : Bool). (if b then reply_of_machine (machine_after_event images s m) ∷ [] else []) ++ answers_in images h.start (machine_after_event images s m) ms) own in
      record {
        answers =
            answers
            ∙ ap (λ (r : Reply). r ∷ answers_in images h.start (machine_after_event images s m) ms) replies_so
            ∙ ap (λ (rs : List Reply). (turn_of_call (alone_in s.store h) call).reply ∷ rs) reported.answers
            ∙ sym (ap (replies (alone_in s.store h)) calls);
        heap = reported.heap ∙ sym (ap (λ (xs : List HeapCall). Some (heap_after_calls (alone_in s.store h) xs)) calls);
      }

  other_shown : is_own h.start s m ≡ false → IsShown images (machine_after_event images s m) h.start (alone_in s.store h) ms
      → IsShown images s h.start (alone_in s.store h) (m ∷ ms)
  other_shown other reported =
      let cs : List HeapCall = calls_in images h.start (machine_after_event images s m) ms in
      let calls : calls_in images h.start s (m ∷ ms) ≡ cs = ap (λ (b : Bool). (if b then asked_by h.start s m else []) ++ cs) other in
      let answers : answers_in images h.start s (m ∷ ms) ≡ answers_in images h.start (machine_after_event images s m) ms =
      ap (λ (b : Bool). (if b then reply_of_machine (machine_after_event images s m) ∷ [] else []) ++ answers_in images h.start (machine_after_event images s m) ms) other in
      record {
        answers = answers ∙ reported.answers ∙ sym (ap (replies (alone_in s.store h)) calls);
        heap = reported.heap ∙ sym (ap (λ (xs : List HeapCall). Some (heap_after_calls (alone_in s.store h) xs)) calls);
      }

-- another move leaves the heap where it stands
kept_stands : (images : List Entry) (s : MachineState) (h : HeapList) (m : Move) → HasHeap s h → IsMoveDone images h.start s m
    → is_own h.start s m ≡ false → KeepsHeap h s.store (machine_after_event images s m).store → Stands (machine_after_event images s m) h.start (alone_in s.store h)
kept_stands images s h m has move other kept = record {
  heap = h;
  starts = refl;
  has = record {
    state = move.state;
    goes = move.goes;
    found = kept.found;
    own = has.own;
    anchors = λ a here. kept.anchors a here ∙ has.anchors a here;
    alone = whole_alone (machine_after_event images s m).store h kept.found (move.left other);
  };
  is = kept_alone h s.store (machine_after_event images s m).store kept;
}

-- what is shown of the heap that stands there, shown of its place
shown_at : (images : List Entry) (moves : List Move) (s : MachineState) (start : ℕ) (w : Alone) (stands : Stands s start w)
    → IsShown images s stands.heap.start (alone_in s.store stands.heap) moves → IsShown images s start w moves
shown_at images moves s start w stands at =
    subst (λ (x : Alone). IsShown images s start x moves) stands.is
    (subst (λ (a : ℕ). IsShown images s a (alone_in s.store stands.heap) moves) stands.starts at)

done_at : (images : List Entry) (moves : List Move) (s : MachineState) (start : ℕ) (w : Alone) (stands : Stands s start w)
    → AreMovesDone images start s moves → AreMovesDone images stands.heap.start s moves
done_at images moves s start w stands done = subst (λ (a : ℕ). AreMovesDone images a s moves) (sym stands.starts) done

reported : (images : List Entry) (moves : List Move) (s : MachineState) (h : HeapList) → HasHeap s h → AreMovesDone images h.start s moves
    → IsShown images s h.start (alone_in s.store h) moves
reported images [] s h has done = record { answers = refl; heap = found_alone h s.store has.found }
reported images (m ∷ ms) s h has done = elim (cases_Bool (is_own h.start s m)) [
  | inl own ↦
      let t : MachineState = machine_after_event images s m in
      let one : OwnCall images s h m = own_call images s h m has done.0 own in
      let left : Alone = (turn_of_call (alone_in s.store h) one.call).now in
      own_shown images s h m ms one.call own one.asked one.reply
      (shown_at images ms t h.start left one.stands
      (reported images ms t one.stands.heap one.stands.has (done_at images ms t h.start left one.stands done.1)))
  | inr other ↦
      let t : MachineState = machine_after_event images s m in
      let kept : KeepsHeap h s.store (machine_after_event images s m).store = move_keeps images s h m has done.0 other in
      let stands : Stands t h.start (alone_in s.store h) = kept_stands images s h m has done.0 other kept in
      other_shown images s h m ms other
      (shown_at images ms t h.start (alone_in s.store h) stands
      (reported images ms t stands.heap stands.has (done_at images ms t h.start (alone_in s.store h) stands done.1)))
]

pub stand_alone : MachineHeapsStandAlone
stand_alone images s h moves has done =
    let is : IsShown images s h.start (alone_in s.store h) moves = reported images moves s h has done in
    record { answers = is.answers; heap = is.heap }

pub module_states_alike : ModuleStatesAnswerAlike
module_states_alike images images' s t h k moves moves' has done has' done' same calls =
    let one : MachineHeapStandsAlone images s h moves = stand_alone images s h moves has done in
    let two : MachineHeapStandsAlone images' t k moves' = stand_alone images' t k moves' has' done' in
    record {
      answers = one.answers ∙ ap (λ (w : Alone). replies w (calls_in images h.start s moves)) same ∙ ap (replies (alone_in t.store k)) calls ∙ sym two.answers;
      heap =
          one.heap ∙ ap (λ (w : Alone). Some (heap_after_calls w (calls_in images h.start s moves))) same
          ∙ ap (λ (cs : List HeapCall). Some (heap_after_calls (alone_in t.store k) cs)) calls ∙ sym two.heap;
    }
