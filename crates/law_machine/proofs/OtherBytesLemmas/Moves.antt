-- What each move of a machine writes.
use Rattle.std.proofs.Common.{ℕ, ◌≡◌, ◌+◌, ◌%◌, ◌^◌, ◌∙◌, ◌⊎◌, true, false, List, Option, Some, None, Result, Ok, Err, refl, sym, ap, subst, inl, inr}
use Rattle.std.specs.Prelude.{ok_or}
use Rattle.profile.specs.Outcome.{bind}
use Rattle.profile.specs.Word.{bit_of}
use Rattle.profile.specs.ErrorNumber.TheVariants.{BadString}
use Rattle.address_map.specs.Bytes.{Bytes}
use Rattle.arm_core.specs.State.{State}
use Rattle.arm_core.specs.declared.turn.StepEnd.{StepEnd}
use Rattle.arm_core.specs.declared.turn.StepEnd.TheVariants as turn
use Rattle.profile.specs.images.Entries.{Entry}
use Rattle.os_heap.specs.Store.{IsSound, Store}
use Rattle.swi_dispatch_guest.specs.SwiDispatchAnswersWords.{host_string}
use Rattle.swi_dispatch_guest.specs.Frames.{innermost_frame}
use Rattle.swi_dispatch_guest.proofs.NextTurn.{unhalted_step, outside_call}
use Rattle.swi_dispatch_guest.specs.declared.halt.Halt.{Halt}
use Rattle.swi_dispatch_guest.specs.Additions.{load_planned}
use Rattle.swi_dispatch_guest.specs.MachineState.{MachineState, StepOutcome}
use Rattle.swi_dispatch_guest.specs.Moves.{Call, Step, machine_after_event, machine_with_words, outside_name, swi_of_turn}
use Rattle.swi_dispatch_guest.specs.GuestState.{IsState}
use Rattle.swi_dispatch_guest.specs.Step.{machine_step, module_loaded, outcome_of_call, outcome_of_planned, outcome_of_turn, result_of_instruction, store_called, unless_halted, without_x}
use Rattle.law_machine.proofs.HeapAloneLemmas.LiveBytes.{byte_done}
use Rattle.law_machine.proofs.HeapAloneLemmas.ModuleHosts.{HasModules, given_modules, has_modules}
use Rattle.law_machine.proofs.HeapAloneLemmas.States.{IsGiven, given_goes, given_same, given_stays, has_store, sound_store}
use Rattle.law_machine.specs.heap_alone.ByteLaws.{IsStoredPlain}
use Rattle.law_machine.specs.heap_alone.ModuleMoves.{is_at_gate}
use Rattle.law_machine.proofs.LiveBytesLemmas.Moves.{call_halted, step_halted}
use Rattle.law_machine.proofs.OtherBytesLemmas.Calls.{call_ends}
use Rattle.law_machine.proofs.OtherBytesLemmas.Ending.{Ends}
use Rattle.law_machine.proofs.OtherBytesLemmas.Gates.{gate_ends}
use Rattle.law_machine.proofs.OtherBytesLemmas.ModuleRow.{loaded_ends}
use Rattle.law_machine.specs.other_bytes.MoveWrites.{IsErrorByte, IsOfCall, IsOfGate, IsOfLoad, LoadsKeepOthers, MayWrite, OtherBytesStay, is_at_call}

-- a step
module _ (images : List Entry) (s : MachineState) (has : HasModules s) (a : ℕ) where
  abbrev next_of : ℕ
  next_of = (s.cpu.pc + 4) % 2 ^ 26

  abbrev TurnWrites : Result (State × Bytes) StepEnd → MachineState → Type 0
  TurnWrites r t =
      (t.store.bytes.at a ≡ s.store.bytes.at a)
      ⊎ (IsStoredPlain s a
      ⊎ (((is_at_gate r ≡ true) × IsOfGate s (innermost_frame s.tables.frames) s.tables.plan a)
      ⊎ ((is_at_call r ≡ true) × (IsErrorByte t a ⊎ IsOfCall images s next_of (swi_of_turn r) t a))))

  from_stored : (r : Result (State × Bytes) StepEnd) (t : MachineState) → (t.store.bytes.at a ≡ s.store.bytes.at a) ⊎ IsStoredPlain s a → TurnWrites r t
  from_stored r t (inl same) = inl same
  from_stored r t (inr stored) = inr (inl stored)

  from_gate : (t : MachineState) → (t.store.bytes.at a ≡ s.store.bytes.at a) ⊎ IsOfGate s (innermost_frame s.tables.frames) s.tables.plan a → TurnWrites (Err turn.Gate) t
  from_gate t (inl same) = inl same
  from_gate t (inr written) = inr (inr (inl (refl, written)))

  from_call : (r : Result (State × Bytes) StepEnd) (t : MachineState) → is_at_call r ≡ true
      → (t.store.bytes.at a ≡ s.store.bytes.at a) ⊎ (IsErrorByte t a ⊎ IsOfCall images s next_of (swi_of_turn r) t a) → TurnWrites r t
  from_call r t calls (inl same) = inl same
  from_call r t calls (inr written) = inr (inr (inr (calls, written)))

  turn_writes : (r : Result (State × Bytes) StepEnd) → result_of_instruction s ≡ r → IsSound (outcome_of_turn images s r).now.store
      → TurnWrites r (outcome_of_turn images s r).now
  turn_writes (Ok w) is sound = from_stored (Ok w) (outcome_of_turn images s (Ok w)).now (byte_done s w a is)
  turn_writes (Err turn.Done) is sound = inl refl
  turn_writes (Err (turn.Swi n)) is sound =
      from_call (Err (turn.Swi n)) (outcome_of_turn images s (Err (turn.Swi n))).now refl
      (call_ends images s has a (bit_of n 17) next_of (without_x n) sound)
  turn_writes (Err turn.Gate) is sound = from_gate (outcome_of_turn images s (Err turn.Gate)).now (gate_ends s has a)
  turn_writes (Err (turn.Fault f)) is sound = inl refl

step_stays : (images : List Entry) (s : MachineState) (a : ℕ) (o : Option Halt) → s.halt ≡ o → IsState s → IsState (machine_after_event images s Step)
    → ((machine_after_event images s Step).store.bytes.at a ≡ s.store.bytes.at a) ⊎ MayWrite images s (machine_after_event images s Step) Step a
step_stays images s a (Some h) is state after = inl (ap (λ (o : StepOutcome). o.now.store.bytes.at a) (step_halted images s h is))
step_stays images s a None goes state after =
    let step : machine_step images s ≡ outcome_of_turn images s (result_of_instruction s) = unhalted_step images s goes in
    let sound : IsSound (outcome_of_turn images s (result_of_instruction s)).now.store =
    subst (λ (o : StepOutcome). IsSound o.now.store) step (sound_store (machine_after_event images s Step) (has_store (machine_after_event images s Step) after)) in
    subst (λ (o : StepOutcome). (o.now.store.bytes.at a ≡ s.store.bytes.at a) ⊎ MayWrite images s o.now Step a) (sym step)
    (turn_writes images s (has_modules s state) a (result_of_instruction s) refl sound)

call_stays : (images : List Entry) (s : MachineState) (number : ℕ) (words : List ℕ) (a : ℕ) (o : Option Halt) → s.halt ≡ o → IsState s
    → IsState (machine_after_event images s (Call number words))
    → ((machine_after_event images s (Call number words)).store.bytes.at a ≡ s.store.bytes.at a)
    ⊎ MayWrite images s (machine_after_event images s (Call number words)) (Call number words) a
call_stays images s number words a (Some h) is state after =
    let u : MachineState = machine_with_words s words in
    let same : IsGiven s u = given_same s 0 words (has_store s state).size in
    inl (ap (λ (o : StepOutcome). o.now.store.bytes.at a) (call_halted images u number h (given_goes s u same ∙ is)) ∙ ap (λ (t : Store). t.bytes.at a) (given_stays s u same))
call_stays images s number words a None goes state after =
    let u : MachineState = machine_with_words s words in
    let same : IsGiven s u = given_same s 0 words (has_store s state).size in
    let stays : u.store ≡ s.store = given_stays s u same in
    let o : StepOutcome = outcome_of_call images u true u.cpu.pc (without_x (number % 2 ^ 24)) in
    let call : store_called images u number ≡ o = outside_call images u number (given_goes s u same ∙ goes) in
    let sound : IsSound o.now.store =
    subst (λ (o : StepOutcome). IsSound o.now.store) call (sound_store (machine_after_event images s (Call number words)) (has_store (machine_after_event images s (Call number words)) after)) in
    let byte = call_ends images u (given_modules s u (has_modules s state) same) a true u.cpu.pc (without_x (number % 2 ^ 24)) sound in
    subst (λ (p : StepOutcome). (p.now.store.bytes.at a ≡ s.store.bytes.at a) ⊎ MayWrite images s p.now (Call number words) a) (sym call)
    (subst (λ (t : Store). (o.now.store.bytes.at a ≡ t.bytes.at a) ⊎ (IsErrorByte o.now a ⊎ IsOfCall images u u.cpu.pc (outside_name number) o.now a)) stays byte)

pub other_bytes_stay : OtherBytesStay
other_bytes_stay images s Step a state after = step_stays images s a s.halt refl state after
other_bytes_stay images s (Call number words) a state after = call_stays images s number words a s.halt refl state after

-- a module that is loaded from outside
unhalted : (images : List Entry) (s : MachineState) (a : ℕ) (o : Option Halt) (x : StepOutcome) → Ends s a (λ t f. IsOfLoad images s a) x.now
    → Ends s a (λ t f. IsOfLoad images s a) (unless_halted s o x).now
unhalted images s a None x ends = ends
unhalted images s a (Some h) x ends = inl refl

pub loads_keep_others : LoadsKeepOthers
unfolding module_loaded
loads_keep_others images s text a state =
    let o : StepOutcome = outcome_of_planned s true s.cpu.pc false (bind (ok_or (host_string text) BadString) (λ words. load_planned images s words false)) in
    unhalted images s a s.halt o (loaded_ends s (has_modules s state) a images s.cpu.pc (host_string text))
