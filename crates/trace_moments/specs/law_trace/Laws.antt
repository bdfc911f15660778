-- What a trace reports an instruction's stores is all that it changes in memory; and a call of which it
-- shows nothing of the store leaves that as it is.
use Rattle.std.specs.Prelude.{◌≡◌, ◌≢◌, ◌*◌, ◌%◌, ℕ, Bool, true, false, None, IsSome, is_none, Ok, Err, List, length}
use Rattle.profile.specs.MemoryMap.{error_block_start}
use Rattle.profile.specs.images.Entries.{Entry}
use Rattle.address_map.specs.Bytes.{Bytes, in_range, word_at}
use Rattle.arm_core.specs.State.{State, register_of}
use Rattle.arm_core.specs.declared.turn.StepEnd.TheVariants as turn
use Rattle.trace_store_text.specs.MachineState.{MachineState}
use Rattle.trace_store_text.specs.Step.{machine_step, result_of_instruction, without_x}
use Rattle.trace_effects.specs.Cause.{cause_of, swi_of_cause}
use Rattle.trace_effects.specs.Leaving.{call_leaves}
use Rattle.trace_effects.specs.Stored.{stored_words}
use Rattle.trace_effects.specs.declared.cause.Cause.{Cause}
use Rattle.trace_effects.specs.declared.cause.Cause.TheVariants.{Gate}
use Rattle.trace_effects.specs.declared.stored.StoredWords.{StoredWords}

abbrev pub IsInWords : StoredWords → ℕ → Type 0
IsInWords words a = in_range words.at (4 * words.count) a ≡ true

-- An instruction that is carried out, or skipped: of the machine's memory only bytes of the words that
-- are shown of it differ after the step.
abbrev pub StoresAreShown : Type 0
StoresAreShown =
    (images : List Entry) (s : MachineState) (w : State × Bytes) (a : ℕ) → s.halt ≡ None →
    result_of_instruction s ≡ Ok w →
    (machine_step images s).now.store.bytes.at a ≢ s.store.bytes.at a →
    IsInWords (stored_words (cause_of s.cpu s.store.bytes) s.cpu) a

-- An instruction, as records show one: neither the return gate nor a store call.
abbrev pub is_plain : Cause → Bool
is_plain Gate = false
is_plain cause = is_none (swi_of_cause cause)

-- A step that leaves memory as it was where the machine is halted behind it, and else each word but those
-- that are shown of it.
pub record StoresWords (words : StoredWords) (s t : MachineState) : Type 0 where
  pub halted : IsSome t.halt → (a : ℕ) → word_at t.store.bytes.at a ≡ word_at s.store.bytes.at a
  pub stored : (a : ℕ) → a % 4 ≡ 0 → in_range words.at (4 * words.count) a ≡ false
      → word_at t.store.bytes.at a ≡ word_at s.store.bytes.at a
  pub aligned : words.at % 4 ≡ 0

-- So is each step that makes no call and isn't at the gate, whether the instruction is carried out, skipped,
-- or can't be, and where the machine is halted already.
abbrev pub PlainStepsStore : Type 0
PlainStepsStore = (images : List Entry) (s : MachineState)
    → is_plain (cause_of s.cpu s.store.bytes) ≡ true
    → StoresWords (stored_words (cause_of s.cpu s.store.bytes) s.cpu) s (machine_step images s).now

-- A byte of the system's error block, where an error has gone back: V is set, and no frame was entered.
pub record IsOfError (s s' : MachineState) (a : ℕ) : Type 0 where
  pub block : in_range error_block_start 256 a ≡ true
  pub error : s'.cpu.psr.overflow ≡ true
  pub frames : length s'.tables.frames ≡ length s.tables.frames

-- The store is what it was: which memory is mapped, its heaps and all other recorded ranges, the modules
-- with their instances, where the flex store is, and each byte but those of an error.
pub record IsStoreLeft (s s' : MachineState) : Type 0 where
  pub mapped : s'.store.bytes.mapped ≡ s.store.bytes.mapped
  pub heaps : s'.store.heaps ≡ s.store.heaps
  pub others : s'.store.others ≡ s.store.others
  pub modules : s'.tables.modules ≡ s.tables.modules
  pub flex : s'.tables.flex ≡ s.tables.flex
  pub bytes : (a : ℕ) → s'.store.bytes.at a ≢ s.store.bytes.at a → IsOfError s s' a

-- A step that makes a call of which a trace keeps no copy of the store leaves the store as it is.
abbrev pub CallsLeaveStore : Type 0
CallsLeaveStore =
    (images : List Entry) (s : MachineState) (n : ℕ) → s.halt ≡ None → result_of_instruction s ≡ Err
    (turn.Swi n) →
    call_leaves (register_of s.cpu 0) (without_x n) ≡ true → IsStoreLeft s (machine_step images s).now
