-- What records say of a machine before and after: its core, and each word of its memory by its address,
-- where one that isn't mapped counts as 0.
use Rattle.std.specs.Prelude.{◌≡◌, ℕ, ◌+◌, ◌%◌, ◌<◌, ◌^◌, Bool, true, false, is_some, IsSome, List, ◌++◌, Option, Some, None, if◌then◌else◌}
use Rattle.address_map.specs.Bytes.{word_at}
use Rattle.trace_text.specs.MachineState.{MachineState}
use Rattle.trace_effects.specs.Cause.{cause_of}
use Rattle.trace_effects.specs.Stored.{stored_words}
use Rattle.trace_effects.specs.changes.Laws.{CoreChanges}
use Rattle.trace_effects.specs.declared.cause.Cause.{Cause}
use Rattle.trace_effects.specs.declared.record_text.text.RecordText.{RecordText}
use Rattle.trace_effects.specs.declared.shown_words.words.ShownWord.{ShownWord}
use Rattle.trace_text.specs.Copies.{kept_in}
use Rattle.trace_moments.specs.Stored.{AreListed, is_listed}
use Rattle.trace_moments.specs.CoreFields.{AreCoreChanges, core_fields}
use Rattle.trace_moments.specs.Fields.{HasMore}
use Rattle.trace_moments.specs.WordFields.{AreWordChanges, word_fields}
use Rattle.trace_json.specs.declared.changes.MachineCopy.{MachineCopy}
use Rattle.trace_json.specs.declared.before.MemoryBefore.{MemoryBefore}
use Rattle.trace_json.specs.declared.before.MemoryBefore.TheVariants.{Copied, Stored}
use Rattle.trace_json.specs.declared.step.StepBefore.{StepBefore}
use Rattle.trace_json.specs.declared.before.StepKind.{StepKind}
use Rattle.trace_json.specs.declared.before.StepKind.TheVariants.{Instruction, Outside}

abbrev pub words_of : MachineState → ℕ → ℕ
words_of s = word_at s.store.bytes.at

-- Of a machine was written what differs of its core and its words from one before it.
pub record ShowsChanges (name : List ℕ) (expected : ℕ) (s t : MachineState) (old new : RecordText) : Type
    0 where
  pub core : CoreChanges
  pub words : List ShownWord
  pub core_are : AreCoreChanges expected s.cpu t.cpu core
  pub words_are : AreWordChanges (words_of s) (words_of t) words
  pub written : HasMore old new (core_fields name core ++ word_fields words)

-- WHAT IS KEPT OF A MACHINE

pub record IsCopy (copy : MachineCopy) (s : MachineState) : Type 0 where
  pub core : copy.cpu ≡ s.cpu
  pub bytes : (kept_in copy.store).store.bytes ≡ s.store.bytes

-- before a step: the words that it may store to, by what stands where it is made, or a copy of all
abbrev pub KeepsWords : MemoryBefore → Cause → MachineState → Type 0
KeepsWords (Stored ws) cause s = AreListed (stored_words cause s.cpu) ws.items
KeepsWords (Copied copy) cause s = IsCopy copy s

abbrev pub KeepsMemory : MemoryBefore → MachineState → Type 0
KeepsMemory memory s = KeepsWords memory (cause_of s.cpu s.store.bytes) s

pub record IsKeptBefore (before : StepBefore) (s : MachineState) : Type 0 where
  pub core : before.cpu ≡ s.cpu
  pub memory : KeepsMemory before.memory s

-- A step has changed no word but such as are listed; and none, where the machine is halted behind it.
pub record ChangesListed (ws : List ShownWord) (s t : MachineState) : Type 0 where
  pub halted : IsSome t.halt → (a : ℕ) → words_of t a ≡ words_of s a
  pub others : (a : ℕ) → a % 4 ≡ 0 → a < 2 ^ 26 → is_listed a ws ≡ false → words_of t a ≡ words_of s a

abbrev pub ChangesKept : MemoryBefore → MachineState → MachineState → Type 0
ChangesKept (Stored ws) s t = ChangesListed ws.items s t
ChangesKept (Copied copy) s t = Unit {0}

abbrev pub is_copied : MemoryBefore → Bool
is_copied (Copied copy) = true
is_copied (Stored ws) = false

-- whether a step of a kind may change more than the words that an instruction stores to
abbrev pub changes_all : StepKind → Bool
changes_all Instruction = false
changes_all kind = true

-- WHERE A STEP IS MADE, AND WHERE THE CORE IS EXPECTED TO GO ON

-- a call from outside is made nowhere
abbrev pub step_place_by : StepKind → ℕ → Option ℕ
step_place_by (Outside number) pc = None
step_place_by kind pc = Some pc

abbrev pub step_place : StepBefore → Option ℕ
step_place before = step_place_by before.kind before.cpu.pc

abbrev pub IsMadeOutside : StepBefore → Type 0
IsMadeOutside before = step_place before ≡ None

-- at the next word, or where a machine stands that is halted; behind a call from outside where it stood
abbrev pub expected_at : Option ℕ → ℕ → Bool → ℕ
expected_at None from is_halted = from
expected_at (Some at) from is_halted = if is_halted then at else (at + 4) % 2 ^ 26
