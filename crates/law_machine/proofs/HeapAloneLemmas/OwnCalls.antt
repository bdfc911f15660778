-- An own call of the heap answers one turn of it, and leaves what the turn leaves.
use Rattle.swi_dispatch_guest.specs.Moves.{Call, Move, Step, machine_with_words, machine_after_event, outside_name}
use Rattle.swi_dispatch_guest.proofs.NextTurn.{outside_call}
use Rattle.std.proofs.Common.{ℕ, ◌≡◌, ◌==◌, ◌∙◌, ◌%◌, ◌^◌, Bool, true, false, List, [], ◌∷◌, Option, Some, None, Result, Ok, Err, refl, sym, ap, subst, if◌then◌else◌}
use Rattle.std.proofs.lemmas.Bool.{and_parts, eqb-true, false≢true}
use Rattle.profile.specs.Reasons.{heap_reason}
use Rattle.profile.specs.SwiNames.{swi_of}
use Rattle.profile.specs.ErrorNumber.{ErrorNumber}
use Rattle.profile.specs.declared.reason.HeapReason.{HeapReason}
use Rattle.profile.specs.declared.swi.SwiName.{SwiName}
use Rattle.profile.specs.declared.swi.SwiName.TheVariants as swi
use Rattle.arm_core.specs.State.{State, register_of}
use Rattle.profile.specs.images.Entries.{Entry}
use Rattle.os_heap_words.specs.lists.Heap.{HeapList}
use Rattle.os_heap.specs.Calls.{has_own_size}
use Rattle.os_heap.specs.Store.{Store, find_heap}
use Rattle.law_machine.proofs.HeapCallsLemmas.OwnHeaps.{own_kept}
use Rattle.law_machine.proofs.HeapCallsLemmas.OwnCalls.{own_turns}
use Rattle.law_machine.specs.heap_calls.Alone.{Alone, HeapCall, alone_in, call_given}
use Rattle.law_machine.specs.heap_calls.Laws.{HasHeapStill, HeapHasNoAnchor, HoldsNoHeap, IsGuestHeap, KeepsHeap}
use Rattle.law_machine.specs.heap_calls.Lists.{is_on_heap}
use Rattle.law_machine.specs.heap_calls.Turns.{Answered, Refused, HeapTurn, alone_or, call_on, heap_turn_of_result, turn_of_call}
use Rattle.swi_dispatch_guest.specs.Refusal.{Refusal}
use Rattle.swi_dispatch_guest.specs.Refusal.TheVariants as refusal
use Rattle.swi_dispatch_guest.specs.Heaps.{heap_called, heap_called_for}
use Rattle.swi_dispatch_guest.proofs.ErrorNumbers.{block_read}
use Rattle.swi_dispatch_guest.specs.declared.halt.Halt.TheVariants as halt
use Rattle.swi_dispatch_guest.specs.Answers.{went_on}
use Rattle.swi_dispatch_guest.specs.Calls.{call_answer, on_store}
use Rattle.swi_dispatch_guest.specs.Errors.{error_number, with_error}
use Rattle.swi_dispatch_guest.specs.MachineState.{MachineState, StepOutcome}
use Rattle.swi_dispatch_guest.specs.Returns.{outcome_of_halt}
use Rattle.swi_dispatch_guest.specs.Step.{outcome_of_call, called_by, outcome_of_answer, is_exit, without_x}
use Rattle.swi_dispatch_guest.specs.GuestState.{IsState}
use Rattle.law_machine.proofs.HeapAloneLemmas.HeapAnswers.{Agree, heap_agrees, overflow_back, three_back, two_back}
use Rattle.law_machine.proofs.HeapAloneLemmas.Keeping.{error_kept, kept_alone, off_system}
use Rattle.law_machine.proofs.HeapAloneLemmas.States.{HasStore, IsGiven, given_goes, given_same, given_stays, given_store, guest_heap, has_store, mapped_block}
use Rattle.law_machine.specs.heap_alone.Laws.{HasHeap, IsMoveDone}
use Rattle.law_machine.specs.heap_alone.Moves.{heap_calls_of_swi, asked_by, is_swi_to, is_for_heap, is_heap_swi, is_own, reply_of_machine}
use Rattle.law_machine.proofs.HeapFrameLemmas.Areas.{heap_same}

-- a machine in which the heap at a place stands, and is this one
pub record Stands (s : MachineState) (start : ℕ) (w : Alone) : Type 0 where
  pub heap : HeapList
  pub starts : heap.start ≡ start
  pub has : HasHeap s heap
  pub is : alone_in s.store heap ≡ w

-- an own call: what it asks, and that its answer and the heap after it are those of the turn
pub record OwnCall (images : List Entry) (s : MachineState) (h : HeapList) (m : Move) : Type 0 where
  pub call : HeapCall
  pub asked : asked_by h.start s m ≡ call ∷ []
  pub reply : reply_of_machine (machine_after_event images s m) ≡ (turn_of_call (alone_in s.store h) call).reply
  pub stands : Stands (machine_after_event images s m) h.start (turn_of_call (alone_in s.store h) call).now

-- the machine after it, by what the call on the heap comes to
abbrev after : MachineState → ℕ → Result (State × Store) Refusal → MachineState
after u next q = (outcome_of_answer u true (went_on u next (on_store u q))).now

overflow_by : (v : Bool) (t : MachineState) → t.cpu.psr.overflow ≡ v
    → reply_of_machine t ≡ (if v then Refused (error_number t) else Answered (register_of t.cpu 2) (register_of t.cpu 3))
overflow_by v t is = ap (λ (b : Bool). if b then Refused (error_number t) else Answered (register_of t.cpu 2) (register_of t.cpu 3)) is

both_answered : (a b x y : ℕ) → a ≡ x → b ≡ y → Answered a b ≡ Answered x y
both_answered a b x y one two = λ i. Answered (one i) (two i)

-- the heap that a call leaves at a place
record HeapLeft (t : Store) (start : ℕ) (w : Alone) : Type 0 where
  heap : HeapList
  starts : heap.start ≡ start
  found : find_heap start t.heaps ≡ Some heap
  own : has_own_size heap.kind ≡ true
  anchors : HeapHasNoAnchor t heap
  alone : HoldsNoHeap t heap
  is : alone_in t heap ≡ w

record IsReplied (t : MachineState) (h : HeapList) (r : Result (Store × (ℕ × ℕ)) ErrorNumber) (w : Alone) : Type 0 where
  reply : reply_of_machine t ≡ (heap_turn_of_result w r).reply
  left : HeapLeft t.store h.start (heap_turn_of_result w r).now

module _ (u : MachineState) (h : HeapList) (store : HasStore u) (guest : IsGuestHeap u.store h) (next : ℕ) where
  done_replied : (q : State × Store) (r : Store × (ℕ × ℕ)) → Agree (Ok q) (Ok r) → HasHeapStill r.0 h.start
      → IsReplied (after u next (Ok q)) h (Ok r) (alone_in u.store h)
  done_replied q r agree still =
      let t : MachineState = after u next (Ok q) in
      let w : Alone = alone_or (alone_in u.store h) r.0 (find_heap h.start r.0.heaps) in
      let left : HeapLeft r.0 h.start w = record {
        heap = still.heap;
        starts = still.starts;
        found = still.found;
        own = still.own;
        anchors = still.anchors;
        alone = still.alone;
        is = sym (ap (alone_or (alone_in u.store h) r.0) still.found);
      } in
      record {
        reply =
            overflow_by false t (overflow_back u.cpu.psr q.0 false next)
            ∙ both_answered _ _ _ _ (two_back u.cpu.psr q.0 false next ∙ agree.1.0) (three_back u.cpu.psr q.0 false next ∙ agree.1.1);
        left = subst (λ (x : Store). HeapLeft x h.start w) (sym agree.0) left;
      }

  error_replied : (number : ErrorNumber) → IsReplied (after u next (Err (refusal.System number))) h (Err number) (alone_in u.store h)
  error_replied number =
      let t : MachineState = after u next (Err (refusal.System number)) in
      let kept : KeepsHeap h u.store t.store =
      error_kept h u.store u (refusal.System number) (off_system u h store guest.found) (heap_same h u.store guest.found) in
      record {
        reply =
            overflow_by true t (overflow_back u.cpu.psr (with_error u (refusal.System number)).cpu true next)
            ∙ ap Refused (block_read u u.cpu.psr next number (mapped_block u store) store.size);
        left = record {
          heap = h;
          starts = refl;
          found = kept.found;
          own = guest.own;
          anchors = λ a here. kept.anchors a here ∙ guest.anchors a here;
          alone = guest.alone;
          is = kept_alone h u.store t.store kept;
        };
      }

  replied_by : (q : Result (State × Store) Refusal) (r : Result (Store × (ℕ × ℕ)) ErrorNumber) → Agree q r
      → ((x : Store × (ℕ × ℕ)) → r ≡ Ok x → HasHeapStill x.0 h.start) → IsReplied (after u next q) h r (alone_in u.store h)
  replied_by (Ok q) (Ok r) agree still = done_replied q r agree (still r refl)
  replied_by (Err e) (Err number) agree still =
      subst (λ (f : Refusal). IsReplied (after u next (Err f)) h (Err number) (alone_in u.store h)) (sym agree) (error_replied number)
  replied_by (Ok q) (Err number) agree still = absurd agree
  replied_by (Err e) (Ok r) agree still = absurd agree

  abbrev call_of : HeapReason → HeapCall
  call_of why = call_given u.store h why (register_of u.cpu 2) (register_of u.cpu 3)

  own_replied : (why : HeapReason) → is_on_heap why ≡ true → register_of u.cpu 1 ≡ h.start
      → IsReplied (after u next (heap_called_for u.cpu u.store (Some why))) h
      (call_on u.store h.start why (register_of u.cpu 2) (register_of u.cpu 3)) (alone_in u.store h)
  own_replied why on at =
      replied_by (heap_called_for u.cpu u.store (Some why)) (call_on u.store h.start why (register_of u.cpu 2) (register_of u.cpu 3))
      (subst (λ (start : ℕ). Agree (heap_called_for u.cpu u.store (Some why)) (call_on u.store start why (register_of u.cpu 2) (register_of u.cpu 3))) at
      (heap_agrees u.cpu store.size u.store why))
      (λ x is. own_kept u.store x.0 h why (register_of u.cpu 2) (register_of u.cpu 3) x.1 guest on is)

called_is : (images : List Entry) (u : MachineState) (next number : ℕ) → swi_of number ≡ Some swi.Heap
    → (outcome_of_call images u true next number).now ≡ after u next (heap_called u.cpu u.store)
unfolding outcome_of_call call_answer
called_is images u next number name =
    ap (λ (o : Option SwiName). (if is_exit o then outcome_of_halt u halt.Exit else called_by images u true next number o).now) name

heap_is : (cpu : State) (s : Store) (why : HeapReason) → heap_reason (register_of cpu 0) ≡ Some why → heap_called cpu s ≡ heap_called_for cpu s (Some why)
unfolding heap_called
heap_is cpu s why reason = ap (heap_called_for cpu s) reason

-- as own calls are shown
pub heap_swi : (o : Option SwiName) → is_heap_swi o ≡ true → o ≡ Some swi.Heap
heap_swi (Some swi.Heap) is = refl
heap_swi None is = absurd (false≢true is)
heap_swi (Some name) is = absurd (false≢true is)

record IsForHeap (o : Option HeapReason) : Type 0 where
  why : HeapReason
  is : o ≡ Some why
  on : is_on_heap why ≡ true

for_heap : (o : Option HeapReason) → is_for_heap o ≡ true → IsForHeap o
for_heap None is = absurd (false≢true is)
for_heap (Some why) is = record { why = why; is = refl; on = is }

stands_left : (t : MachineState) (start : ℕ) (w : Alone) → IsState t → t.halt ≡ None → HeapLeft t.store start w → Stands t start w
stands_left t start w state goes left = record {
  heap = left.heap;
  starts = left.starts;
  has = record {
    state = state;
    goes = goes;
    found = subst (λ (at : ℕ). find_heap at t.store.heaps ≡ Some left.heap) (sym left.starts) left.found;
    own = left.own;
    anchors = left.anchors;
    alone = left.alone;
  };
  is = left.is;
}

guest_given : (s u : Store) (h : HeapList) → u ≡ s → IsGuestHeap s h → IsGuestHeap u h
guest_given s u h same guest = subst (λ (x : Store). IsGuestHeap x h) (sym same) guest

own_by : (images : List Entry) (s : MachineState) (h : HeapList) (number : ℕ) (words : List ℕ) → HasHeap s h
    → IsMoveDone images h.start s (Call number words) → outside_name number ≡ Some swi.Heap → IsForHeap (heap_reason (register_of (machine_with_words s words).cpu 0))
    → register_of (machine_with_words s words).cpu 1 ≡ h.start → OwnCall images s h (Call number words)
own_by images s h number words has move name reason at =
    let u : MachineState = machine_with_words s words in
    let next : ℕ = u.cpu.pc in
    let store : HasStore s = has_store s has.state in
    let same : IsGiven s u = given_same s 0 words store.size in
    let guest : IsGuestHeap u.store h = guest_given s.store u.store h (given_stays s u same) (guest_heap s h has) in
    let block : ℕ = register_of u.cpu 2 in
    let size : ℕ = register_of u.cpu 3 in
    let call : HeapCall = call_given u.store h reason.why block size in
    let t : MachineState = machine_after_event images s (Call number words) in
    let is : t ≡ after u next (heap_called_for u.cpu u.store (Some reason.why)) =
    ap (λ (o : StepOutcome). o.now) (outside_call images u number (given_goes s u same ∙ has.goes))
    ∙ called_is images u next (without_x (number % 2 ^ 24)) name
    ∙ ap (after u next) (heap_is u.cpu u.store reason.why reason.is) in
    let turn : heap_turn_of_result (alone_in u.store h) (call_on u.store h.start reason.why block size) ≡ turn_of_call (alone_in u.store h) call =
    own_turns u.store h reason.why block size guest reason.on in
    let reported : IsReplied t h (call_on u.store h.start reason.why block size) (alone_in u.store h) =
    subst (λ (x : MachineState). IsReplied x h (call_on u.store h.start reason.why block size) (alone_in u.store h)) (sym is)
    (own_replied u h (given_store s u store same) guest next reason.why reason.on at) in
    let by_turn : heap_turn_of_result (alone_in u.store h) (call_on u.store h.start reason.why block size) ≡ turn_of_call (alone_in s.store h) call =
    turn ∙ ap (λ (x : Store). turn_of_call (alone_in x h) call) (given_stays s u same) in
    record {
      call = call;
      asked =
          ap (λ (x : Store). heap_calls_of_swi x u.cpu (heap_reason (register_of u.cpu 0)) (find_heap h.start x.heaps)) (sym (given_stays s u same))
          ∙ ap (λ (o : Option HeapReason). heap_calls_of_swi u.store u.cpu o (find_heap h.start u.store.heaps)) reason.is
          ∙ ap (heap_calls_of_swi u.store u.cpu (Some reason.why)) guest.found;
      reply = reported.reply ∙ ap (λ (x : HeapTurn). x.reply) by_turn;
      stands = stands_left t h.start (turn_of_call (alone_in s.store h) call).now move.state move.goes
          (subst (λ (x : HeapTurn). HeapLeft t.store h.start x.now) by_turn reported.left);
    }

pub own_call : (images : List Entry) (s : MachineState) (h : HeapList) (m : Move) → HasHeap s h → IsMoveDone images h.start s m
    → is_own h.start s m ≡ true → OwnCall images s h m
own_call images s h Step has move own = absurd (false≢true own)
own_call images s h (Call number words) has move own =
    let parts = and_parts (is_heap_swi (outside_name number)) (is_swi_to h.start (machine_with_words s words).cpu) own in
    let cpu : State = (machine_with_words s words).cpu in
    let both = and_parts (is_for_heap (heap_reason (register_of cpu 0))) (register_of cpu 1 == h.start) parts.1 in
    own_by images s h number words has move (heap_swi (outside_name number) parts.0) (for_heap (heap_reason (register_of cpu 0)) both.0)
    (eqb-true (register_of cpu 1) h.start both.1)
