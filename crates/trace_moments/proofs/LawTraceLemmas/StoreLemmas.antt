-- A byte that is stored to lies in a word that is shown.
use Rattle.std.proofs.Common.{◌≡◌, ◌≢◌, ℕ, ◌+◌, ◌*◌, ◌%◌, ◌==◌, ◌&&◌, Bool, not, true, false, Option, Some, None, Result, Ok, Err, refl, sym, ap, subst, ◌∙◌, inl, inr, arith, if◌then◌else◌, List}
use Rattle.std.proofs.lemmas.Bool.{cases_Bool, false≢true}
use Rattle.std.proofs.lemmas.Bool.Decides.{nat_tests}
use Rattle.profile.specs.MemoryMap.{return_gate}
use Rattle.profile.specs.Fault.{Fault}
use Rattle.profile.specs.images.Entries.{Entry}
use Rattle.address_map.specs.Bytes.{Bytes, in_range, word_loaded, word_start}
use Rattle.arm_decode.specs.Decoded.{instruction_of_word}
use Rattle.arm_decode.specs.Fields.{condition_in}
use Rattle.arm_decode.specs.declared.action.Action.{Action}
use Rattle.arm_decode.specs.declared.action.Action.TheVariants as action
use Rattle.arm_decode.specs.declared.action.BlockTransfer.{BlockTransfer}
use Rattle.arm_decode.specs.declared.action.Transfer.{Transfer}
use Rattle.arm_decode.specs.declared.condition.Condition.{Condition}
use Rattle.law_machine.specs.Blocks.{block_start, transferred_count}
use Rattle.law_machine.specs.Step.{result_of_step}
use Rattle.law_machine.specs.Transfers.{transfer_address}
use Rattle.arm_core.specs.Conditions.{condition_holds}
use Rattle.arm_core.specs.State.{State}
use Rattle.arm_core.specs.declared.turn.StepEnd.{StepEnd}
use Rattle.os_heap.specs.Store.{owned_in}
use Rattle.trace_store_text.specs.MachineState.{MachineState, StepOutcome}
use Rattle.trace_store_text.specs.Step.{machine_step, moved_on, outcome_of_turn, result_of_instruction, unless_halted}
use Rattle.law_machine.specs.Halt.{Halt}
use Rattle.law_machine.specs.heap_alone.Storing.{StepsLeaveBytes, is_stored, is_stored_at, stores_by, stores_if_decoded, stores_if_fetched}
use Rattle.trace_effects.specs.Cause.{cause_if_fetched, cause_of}
use Rattle.trace_effects.specs.Stored.{stored_words, words_if_decoded, words_of_action, words_of_block, words_of_transfer}
use Rattle.trace_effects.specs.declared.cause.Cause.{Cause}
use Rattle.trace_moments.specs.law_trace.Laws.{IsInWords, StoresAreShown}

byte_in : (is_byte : Bool) (at a : ℕ) → is_stored_at is_byte at a ≡ true → in_range (word_start at) 4 a ≡ true
byte_in true at a is = grind (arith, nat_tests)
byte_in false at a is = is

transfer_in : (s : State) (t : Transfer) (loads : Bool) (a : ℕ) → t.loads ≡ loads → stores_by s (action.Transfer t) a ≡ true
    → IsInWords (words_of_transfer s t) a
transfer_in s t true a loads is = absurd (false≢true (rw loads at is))
transfer_in s t false a loads is =
    let at : is_stored_at t.is_byte (transfer_address s t.address) a ≡ true = rw loads at is in
    rw loads (byte_in t.is_byte (transfer_address s t.address) a at)

block_in : (s : State) (t : BlockTransfer) (loads : Bool) (a : ℕ) → t.loads ≡ loads → stores_by s (action.BlockTransfer t) a ≡ true
    → IsInWords (words_of_block s t) a
block_in s t true a loads is = absurd (false≢true (rw loads at is))
block_in s t false a loads is =
    let at : in_range (block_start s t) (4 * transferred_count t) a ≡ true = rw loads at is in
    rw loads at

action_in_words : (s : State) (i : Action) (a : ℕ) → stores_by s i a ≡ true → IsInWords (words_of_action s i) a
action_in_words s (action.Transfer t) a is = transfer_in s t t.loads a refl is
action_in_words s (action.BlockTransfer t) a is = block_in s t t.loads a refl is
action_in_words s (action.Operate o) a is = absurd (false≢true is)
action_in_words s (action.Multiply m) a is = absurd (false≢true is)
action_in_words s (action.Branch links distance) a is = absurd (false≢true is)
action_in_words s (action.SoftwareInterrupt n) a is = absurd (false≢true is)

decoded_in_words : (s : State) (r : Result (Condition × Action) Fault) (a : ℕ) → stores_if_decoded s r a ≡ true → IsInWords (words_if_decoded s r) a
decoded_in_words s (Ok i) a is = action_in_words s i.1 a is
decoded_in_words s (Err f) a is = absurd (false≢true is)

fetched_in_words : (s : State) (r : Result ℕ Fault) (a : ℕ) → stores_if_fetched s r a ≡ true → IsInWords (stored_words (cause_if_fetched s r) s) a
fetched_in_words s (Ok w) a is = elim (cases_Bool (condition_holds (condition_in w) s.psr)) [
  | inl met ↦ rw met (decoded_in_words s (instruction_of_word w) a (rw met at is))
  | inr fails ↦ absurd (false≢true (rw fails at is))
]
fetched_in_words s (Err f) a is = absurd (false≢true is)

stored_in_words : (s : State) (b : Bytes) (a : ℕ) → is_stored s b a ≡ true → IsInWords (stored_words (cause_of s b) s) a
unfolding is_stored
stored_in_words s b a is = elim (cases_Bool (s.pc == return_gate)) [
  | inl gate ↦ absurd (false≢true (rw gate at is))
  | inr other ↦ rw other (fetched_in_words s (word_loaded b s.pc) a (rw other at is))
]

-- an instruction leaves the bytes that the core's part of the step leaves
bytes_after : (images : List Entry) (s : MachineState) (w : State × Bytes) → s.halt ≡ None → result_of_instruction s ≡ Ok w
    → (machine_step images s).now.store.bytes ≡ w.1
unfolding machine_step
bytes_after images s w unhalted is =
    ap (λ (h : Option Halt). (unless_halted s h (outcome_of_turn images s (result_of_instruction s))).now.store.bytes) unhalted
    ∙ ap (λ (r : Result (State × Bytes) StepEnd). (outcome_of_turn images s r).now.store.bytes) is

pub reported : StepsLeaveBytes → StoresAreShown
reported past images s w a unhalted is differs = elim (cases_Bool (is_stored s.cpu s.store.bytes a)) [
  | inl stored ↦ stored_in_words s.cpu s.store.bytes a stored
  | inr other ↦
      let same : w.1.at a ≡ s.store.bytes.at a = past (owned_in s.store) s.cpu w.0 s.store.bytes w.1 a is other in
      absurd (differs (ap (λ (b : Bytes). b.at a) (bytes_after images s w unhalted is) ∙ same))
]
