-- Instructions change the bytes that they store to, and calls of OS_Heap none that live blocks hold
-- but those of the heap called.
use Rattle.swi_dispatch_guest.specs.Moves.{Call, Step, machine_with_words, machine_after_event, swi_of_turn}
use Rattle.std.proofs.Common.{ℕ, ◌≡◌, ◌≢◌, ◌==◌, ◌≤◌, ◌<◌, ◌-◌, ◌+◌, ◌%◌, ◌^◌, ◌∙◌, ◌⊎◌, Bool, true, false, List, Option, Some, None, Result, Ok, Err, refl, sym, ap, subst, inl, inr, arith, if◌then◌else◌}
use Rattle.std.proofs.lemmas.Bool.{and_parts, cases_Bool, eqb-true, false_from_ne_true, false≢true, le-leb, lt-ltb}
use Rattle.profile.specs.Outcome.{bind}
use Rattle.profile.specs.Reasons.{heap_reason}
use Rattle.profile.specs.SwiNames.{swi_of}
use Rattle.profile.specs.Word.{bit_of}
use Rattle.profile.specs.ErrorNumber.{ErrorNumber}
use Rattle.profile.specs.declared.reason.HeapReason.{HeapReason}
use Rattle.profile.specs.declared.reason.HeapReason.TheVariants as reason
use Rattle.profile.specs.declared.swi.SwiName.{SwiName}
use Rattle.profile.specs.declared.swi.SwiName.TheVariants as swi
use Rattle.address_map.specs.Bytes.{Bytes, in_range}
use Rattle.swi_dispatch_guest.proofs.Framing.{step_keeps}
use Rattle.arm_core.specs.State.{State, register_of}
use Rattle.arm_core.specs.declared.turn.StepEnd.{StepEnd}
use Rattle.arm_core.specs.declared.turn.StepEnd.TheVariants as turn
use Rattle.profile.specs.images.Entries.{Entry}
use Rattle.os_heap_words.proofs.ListsLemmas.LiveBlocks.{LiveBytes, law_live_bytes}
use Rattle.os_heap_words.specs.lists.Heap.{HeapList, IsHeapIn}
use Rattle.os_heap_words.specs.lists.Lists.{live_total}
use Rattle.address_map.specs.Items.{size_of}
use Rattle.os_heap.proofs.Apart.{block_inside, range_parts}
use Rattle.os_heap.proofs.Found.{found_heap}
use Rattle.os_heap.proofs.KeptPayloads.{calls_keep}
use Rattle.os_heap.specs.Calls.{store_after_init, block_sized, store_after_change, heap_description, gave_back, store_after_get, store_after_resize}
use Rattle.os_heap.specs.Laws.{KeepsPayloads}
use Rattle.os_heap.specs.Store.{IsSound, Store, find_heap, owned_in}
use Rattle.law_machine.proofs.HeapCallsLemmas.DoneCalls.{OnDone}
use Rattle.law_machine.proofs.HeapCallsLemmas.KeptHeaps.{others_recorded}
use Rattle.law_machine.specs.heap_calls.Laws.{IsNotForgotten, KeepsHeap, starts_inside}
use Rattle.law_machine.specs.heap_calls.Lists.{is_call_to, is_on_heap}
use Rattle.law_machine.specs.heap_calls.Turns.{call_on}
use Rattle.swi_dispatch_guest.specs.Refusal.{Refusal}
use Rattle.swi_dispatch_guest.specs.Heaps.{heap_called, heap_called_for}
use Rattle.swi_dispatch_guest.proofs.Kept.{by_words}
use Rattle.swi_dispatch_guest.proofs.NextTurn.{unhalted_step, outside_call}
use Rattle.swi_dispatch_guest.specs.declared.halt.Halt.TheVariants as halt
use Rattle.swi_dispatch_guest.specs.Answers.{went_on}
use Rattle.swi_dispatch_guest.specs.Calls.{call_answer, on_store}
use Rattle.swi_dispatch_guest.specs.Errors.{with_error}
use Rattle.swi_dispatch_guest.specs.MachineState.{MachineState, StepOutcome}
use Rattle.swi_dispatch_guest.specs.Returns.{outcome_of_halt}
use Rattle.swi_dispatch_guest.specs.Step.{outcome_of_call, called_by, outcome_of_answer, result_of_instruction, is_exit, machine_step, store_called, outcome_of_turn, without_x}
use Rattle.law_machine.proofs.HeapAloneLemmas.HeapAnswers.{Agree, heap_agrees}
use Rattle.law_machine.proofs.HeapAloneLemmas.Keeping.{error_kept, off_system}
use Rattle.law_machine.proofs.HeapAloneLemmas.States.{HasStore, IsGiven, given_goes, given_same, given_stays, given_store, has_store, sound_store}
use Rattle.law_machine.proofs.HeapAloneLemmas.Storing.{step_past}
use Rattle.law_machine.specs.heap_alone.ByteLaws.{HeapCallsKeepLiveBytes, InstructionsChangeStored, IsStoredPlain}
use Rattle.law_machine.specs.heap_alone.Moves.{is_heap_swi}
use Rattle.law_machine.specs.heap_alone.Storing.{is_stored}
use Rattle.law_machine.proofs.HeapFrameLemmas.Areas.{heap_same}

-- an instruction
pub byte_done : (s : MachineState) (w : State × Bytes) (a : ℕ) → result_of_instruction s ≡ Ok w → (w.1.at a ≡ s.store.bytes.at a) ⊎ IsStoredPlain s a
byte_done s w a is = elim (cases_Bool (is_stored s.cpu s.store.bytes a)) [
  | inr past ↦ inl (step_past (owned_in s.store) s.cpu w.0 s.store.bytes w.1 a is past)
  | inl stored ↦ elim (cases_Bool (owned_in s.store a)) [
    | inl owned ↦ inl ((step_keeps (owned_in s.store) s.cpu s.store.bytes (by_words s.store) w.0 w.1 is).bytes a owned)
    | inr plain ↦ inr (stored, plain)
  ]
]

pub instructions_change_stored : InstructionsChangeStored
instructions_change_stored images s w a goes is =
    let step : machine_step images s ≡ outcome_of_turn images s (Ok w) = unhalted_step images s goes ∙ ap (outcome_of_turn images s) is in
    subst (λ (o : StepOutcome). (o.now.store.bytes.at a ≡ s.store.bytes.at a) ⊎ IsStoredPlain s a) (sym step) (byte_done s w a is)

-- a byte of a block, in its heap's range
pub payload_inside : (s : Store) (h : HeapList) (block total a : ℕ) → IsSound s → find_heap h.start s.heaps ≡ Some h
    → live_total block (h.start + 16) h.items ≡ Some total → in_range block (total - 4) a ≡ true → in_range h.start h.end a ≡ true
payload_inside s h block total a sound found live here =
    let heap : IsHeapIn s.bytes h.start h.end h.items = found_heap s.bytes h.start s.heaps h sound.heaps found in
    let place : LiveBytes block total (h.start + 16) (h.start + 16 + size_of h.items) = law_live_bytes block total (h.start + 16) h.items heap.totals live in
    let parts : (block ≤ a) × (a < block + (total - 4)) = range_parts block (total - 4) a here in
    block_inside s.bytes h block total a heap live
    (rw (le-leb (block - 4) a (omega (arith, parts.0)), lt-ltb a (block - 4 + total) (omega (arith, parts.1, place.size, place.low))) refl)

same_payloads : (s : Store) (heap : ℕ) → KeepsPayloads s s heap
same_payloads s heap h g block total new_total a found found' live live' here there apart = refl

-- calls on heaps
abbrev Kept : Store → ℕ → Store → Type 0
Kept s heap t = IsSound t → KeepsPayloads s t heap

by_done : (A : Type 0) (P : Store → Type 0) (k : A → ℕ × ℕ) (r : Result (Store × A) ErrorNumber) → ((x : Store × A) → r ≡ Ok x → P x.0)
    → OnDone (ℕ × ℕ) P (bind r (λ x. Ok (x.0, k x.1)))
by_done A P k (Ok x) keeps = keeps x refl
by_done A P k (Err e) keeps = tt

by_shown : (A : Type 0) (P : Store → Type 0) (s : Store) (k : A → ℕ × ℕ) (r : Result A ErrorNumber) → P s → OnDone (ℕ × ℕ) P (bind r (λ x. Ok (s, k x)))
by_shown A P s k (Ok x) same = same
by_shown A P s k (Err e) same = tt

call_keeps : (s : Store) (heap : ℕ) (why : HeapReason) (block size : ℕ) → IsSound s → OnDone (ℕ × ℕ) (Kept s heap) (call_on s heap why block size)
call_keeps s heap reason.Initialise block size sound =
    by_done (Unit {0}) (Kept s heap) (λ _. (block, size)) (store_after_init s heap size) (λ x is sound'. (calls_keep s x.0 heap sound sound').init size is)
call_keeps s heap reason.Describe block size sound =
    by_shown (ℕ × ℕ) (Kept s heap) s (λ r. r) (heap_description s heap) (λ _. same_payloads s heap)
call_keeps s heap reason.Get block size sound =
    by_done ℕ (Kept s heap) (λ n. (n, size)) (store_after_get s heap size) (λ x is sound'. (calls_keep s x.0 heap sound sound').get size x.1 is)
call_keeps s heap reason.Free block size sound =
    by_done (Unit {0}) (Kept s heap) (λ _. (block, size)) (gave_back s heap block) (λ x is sound'. (calls_keep s x.0 heap sound sound').free block is)
call_keeps s heap reason.Resize block size sound =
    by_done ℕ (Kept s heap) (λ n. (n, size)) (store_after_resize s heap block size)
    (λ x is sound'. (calls_keep s x.0 heap sound sound').resize block size x.1 is)
call_keeps s heap reason.ChangeSize block size sound =
    by_done (Unit {0}) (Kept s heap) (λ _. (block, size)) (store_after_change s heap size)
    (λ x is sound'. (calls_keep s x.0 heap sound sound').change_size size is)
call_keeps s heap reason.BlockSize block size sound =
    by_shown ℕ (Kept s heap) s (λ n. (block, n)) (block_sized s heap block) (λ _. same_payloads s heap)

-- such a call leaves also each heap that the heap called does not lie in
pub record HeapCallLeaves (s : Store) (heap : ℕ) (t : Store) : Type 0 where
  pub payloads : KeepsPayloads s t heap
  pub others : (h : HeapList) → find_heap h.start s.heaps ≡ Some h → h.start ≢ heap → starts_inside h heap ≡ false → IsNotForgotten t h.start
      → KeepsHeap h s t

abbrev Leaves : Store → ℕ → Store → Type 0
Leaves s heap t = IsSound t → HeapCallLeaves s heap t

call_leaves : (s : Store) (heap : ℕ) (why : HeapReason) (block size : ℕ) → IsSound s → (r : Result (Store × (ℕ × ℕ)) ErrorNumber)
    → call_on s heap why block size ≡ r → OnDone (ℕ × ℕ) (Kept s heap) r → OnDone (ℕ × ℕ) (Leaves s heap) r
call_leaves s heap why block size sound (Ok x) is kept = λ sound'. record {
  payloads = kept sound';
  others = λ h found apart outside still.
      others_recorded s x.0 h heap why block size x.1 sound sound' found
      (false_from_ne_true (is_call_to h.start heap why) (λ both.
      apart (sym (eqb-true heap h.start (and_parts (is_on_heap why) (heap == h.start) both).1)))) outside is still;
}
call_leaves s heap why block size sound (Err e) is kept = tt

module _ (s : MachineState) (has : HasStore s) where
  abbrev Goes : Result MachineState Refusal → Type 0
  Goes (Ok t) = Leaves s.store (register_of s.cpu 1) t.store
  Goes (Err e) = Unit {0}

  -- an error's block lies in the system pages
  error_leaves : (e : Refusal) → HeapCallLeaves s.store (register_of s.cpu 1) (with_error s e).store
  error_leaves e = record {
    payloads = λ h g block total new_total a found found' live live' here there apart.
        (error_kept h s.store s e (off_system s h has found) (heap_same h s.store found)).bytes a
        (payload_inside s.store h block total a (sound_store s has) found live here);
    others = λ h found apart outside still. error_kept h s.store s e (off_system s h has found) (heap_same h s.store found);
  }

  same_leaves : HeapCallLeaves s.store (register_of s.cpu 1) s.store
  same_leaves = record {
    payloads = same_payloads s.store (register_of s.cpu 1);
    others = λ h found apart outside still. heap_same h s.store found;
  }

  ended_leaves : (x : Bool) (next : ℕ) (r : Result MachineState Refusal) → Goes r
      → Leaves s.store (register_of s.cpu 1) (outcome_of_answer s x (went_on s next r)).now.store
  ended_leaves x next (Ok t) goes = goes
  ended_leaves true next (Err e) goes = λ _. error_leaves e
  ended_leaves false next (Err e) goes = λ _. same_leaves

  heap_by : (q : Result (State × Store) Refusal) (r : Result (Store × (ℕ × ℕ)) ErrorNumber) → Agree q r
      → OnDone (ℕ × ℕ) (Leaves s.store (register_of s.cpu 1)) r → Goes (on_store s q)
  heap_by (Ok q) (Ok r) agree left = subst (Leaves s.store (register_of s.cpu 1)) (sym agree.0) left
  heap_by (Err e) (Err number) agree left = tt
  heap_by (Ok q) (Err number) agree left = absurd agree
  heap_by (Err e) (Ok r) agree left = absurd agree

  heap_goes : (o : Option HeapReason) → Goes (on_store s (heap_called_for s.cpu s.store o))
  heap_goes None = tt
  heap_goes (Some why) =
      let heap : ℕ = register_of s.cpu 1 in
      let block : ℕ = register_of s.cpu 2 in
      let size : ℕ = register_of s.cpu 3 in
      let sound : IsSound s.store = sound_store s has in
      heap_by (heap_called_for s.cpu s.store (Some why)) (call_on s.store heap why block size) (heap_agrees s.cpu has.size s.store why)
      (call_leaves s.store heap why block size sound (call_on s.store heap why block size) refl (call_keeps s.store heap why block size sound))

  heap_leaves : (x : Bool) (next : ℕ) → Leaves s.store (register_of s.cpu 1) (outcome_of_answer s x (went_on s next (on_store s (heap_called s.cpu s.store)))).now.store
  unfolding heap_called
  heap_leaves x next = ended_leaves x next (on_store s (heap_called s.cpu s.store)) (heap_goes (heap_reason (register_of s.cpu 0)))

  pub call_goes : (images : List Entry) (x : Bool) (next number : ℕ) → swi_of number ≡ Some swi.Heap
      → outcome_of_call images s x next number ≡ outcome_of_answer s x (went_on s next (on_store s (heap_called s.cpu s.store)))
  unfolding outcome_of_call call_answer
  call_goes images x next number name =
      ap (λ (o : Option SwiName). if is_exit o then outcome_of_halt s halt.Exit else called_by images s x next number o) name

  pub heap_call_leaves : (images : List Entry) (x : Bool) (next number : ℕ) → swi_of number ≡ Some swi.Heap
      → IsSound (outcome_of_call images s x next number).now.store → HeapCallLeaves s.store (register_of s.cpu 1) (outcome_of_call images s x next number).now.store
  heap_call_leaves images x next number name sound =
      let call = call_goes images x next number name in
      subst (λ (o : StepOutcome). Leaves s.store (register_of s.cpu 1) o.now.store) (sym call) (heap_leaves x next) sound

  no_swi : (t : Store) → None ≡ Some swi.Heap → KeepsPayloads s.store t (register_of s.cpu 1)
  no_swi t is = absurd (false≢true (ap is_heap_swi is))

  turn_keeps : (images : List Entry) (r : Result (State × Bytes) StepEnd) → swi_of_turn r ≡ Some swi.Heap → IsSound (outcome_of_turn images s r).now.store
      → KeepsPayloads s.store (outcome_of_turn images s r).now.store (register_of s.cpu 1)
  turn_keeps images (Ok w) is sound = no_swi (outcome_of_turn images s (Ok w)).now.store is
  turn_keeps images (Err turn.Done) is sound = no_swi (outcome_of_turn images s (Err turn.Done)).now.store is
  turn_keeps images (Err (turn.Swi n)) is sound =
      (heap_call_leaves images (bit_of n 17) ((s.cpu.pc + 4) % 2 ^ 26) (without_x n) is sound).payloads
  turn_keeps images (Err turn.Gate) is sound = no_swi (outcome_of_turn images s (Err turn.Gate)).now.store is
  turn_keeps images (Err (turn.Fault f)) is sound = no_swi (outcome_of_turn images s (Err (turn.Fault f))).now.store is

pub heap_calls_keep : HeapCallsKeepLiveBytes
heap_calls_keep images s Step state goes name after =
    let step : machine_step images s ≡ outcome_of_turn images s (result_of_instruction s) = unhalted_step images s goes in
    let sound : IsSound (outcome_of_turn images s (result_of_instruction s)).now.store =
    subst (λ (o : StepOutcome). IsSound o.now.store) step (sound_store (machine_after_event images s Step) (has_store (machine_after_event images s Step) after)) in
    subst (λ (o : StepOutcome). KeepsPayloads s.store o.now.store (register_of s.cpu 1)) (sym step)
    (turn_keeps s (has_store s state) images (result_of_instruction s) name sound)
heap_calls_keep images s (Call number words) state goes name after =
    let u : MachineState = machine_with_words s words in
    let store : HasStore s = has_store s state in
    let same : IsGiven s u = given_same s 0 words store.size in
    let call : store_called images u number ≡ outcome_of_call images u true u.cpu.pc (without_x (number % 2 ^ 24)) = outside_call images u number (given_goes s u same ∙ goes) in
    let sound : IsSound (outcome_of_call images u true u.cpu.pc (without_x (number % 2 ^ 24))).now.store =
    subst (λ (o : StepOutcome). IsSound o.now.store) call (sound_store (machine_after_event images s (Call number words)) (has_store (machine_after_event images s (Call number words)) after)) in
    let kept : KeepsPayloads u.store (outcome_of_call images u true u.cpu.pc (without_x (number % 2 ^ 24))).now.store (register_of u.cpu 1) =
    (heap_call_leaves u (given_store s u store same) images true u.cpu.pc (without_x (number % 2 ^ 24)) name sound).payloads in
    subst (λ (t : Store). KeepsPayloads t (store_called images u number).now.store (register_of u.cpu 1)) (given_stays s u same)
    (subst (λ (o : StepOutcome). KeepsPayloads u.store o.now.store (register_of u.cpu 1)) (sym call) kept)
