-- A step that makes no call and isn't at the gate stores to the words that are shown of it, and to no others.
use Rattle.std.proofs.Common.{◌≡◌, ◌≢◌, ◌∙◌, ℕ, ◌+◌, ◌-◌, ◌*◌, ◌%◌, ◌<◌, ◌==◌, Bool, true, false, Option, Some, None, is_none, Result, Ok, Err, List, refl, sym, ap, subst, arith, inl, inr, if◌then◌else◌}
use Rattle.std.specs.Prelude.{IsSome}
use Rattle.std.proofs.lemmas.Bool.{cases_Bool, eq-eqb, eqb-true, false≢true}
use Rattle.std.proofs.lemmas.Bool.Decides.{nat_tests}
use Rattle.profile.specs.MemoryMap.{return_gate}
use Rattle.profile.specs.Fault.{Fault}
use Rattle.profile.specs.images.Entries.{Entry}
use Rattle.address_map.specs.Bytes.{Bytes, in_range, word_at, word_loaded, word_start}
use Rattle.arm_core.specs.Conditions.{condition_holds}
use Rattle.arm_core.specs.State.{State}
use Rattle.arm_core.specs.declared.turn.StepEnd.{StepEnd}
use Rattle.arm_core.specs.declared.turn.StepEnd.TheVariants as turn
use Rattle.arm_decode.specs.Decoded.{instruction_of_word}
use Rattle.arm_decode.specs.Fields.{condition_in}
use Rattle.arm_decode.specs.declared.action.Action.{Action}
use Rattle.arm_decode.specs.declared.action.Action.TheVariants as action
use Rattle.arm_decode.specs.declared.action.BlockTransfer.{BlockTransfer}
use Rattle.arm_decode.specs.declared.action.Transfer.{Transfer}
use Rattle.arm_decode.specs.declared.condition.Condition.{Condition}
use Rattle.law_machine.specs.Blocks.{result_of_block_transfer}
use Rattle.law_machine.specs.Step.{acted_if_decoded, executed_if_fetched, or_fault, result_of_action, result_of_step, result_of_word}
use Rattle.law_machine.specs.Transfers.{result_of_transfer}
use Rattle.os_heap.specs.Store.{owned_in}
use Rattle.trace_store_text.specs.MachineState.{MachineState, StepOutcome}
use Rattle.trace_store_text.specs.Step.{machine_step, outcome_of_turn, result_of_instruction, unless_halted}
use Rattle.law_machine.specs.Halt.{Halt}
use Rattle.trace_effects.specs.Cause.{cause_if_fetched, cause_of, swi_if_decoded, swi_of_action}
use Rattle.trace_effects.specs.Stored.{stored_words, words_if_decoded, words_of_action, words_of_block, words_of_transfer}
use Rattle.trace_effects.specs.declared.cause.Cause.{Cause}
use Rattle.trace_effects.specs.declared.cause.Cause.TheVariants.{Gate, Unmapped, Skipped, Word}
use Rattle.trace_effects.specs.declared.stored.StoredWords.{StoredWords}
use Rattle.trace_moments.specs.law_trace.Laws.{IsInWords, PlainStepsStore, StoresAreShown, StoresWords, is_plain}

-- WHAT SUCH A STEP IS

-- the core's part of it is done, or is a fault
abbrev IsPlainTurn : Result (State × Bytes) StepEnd → Type 0
IsPlainTurn (Ok w) = Unit {0}
IsPlainTurn (Err (turn.Fault f)) = Unit {0}
IsPlainTurn (Err t) = ⊥

plain_or_fault : (r : Result (State × Bytes) Fault) → IsPlainTurn (or_fault r)
plain_or_fault (Ok w) = tt
plain_or_fault (Err f) = tt

plain_action : (owned : ℕ → Bool) (s : State) (b : Bytes) (i : Action) → is_none (swi_of_action i) ≡ true
    → IsPlainTurn (result_of_action owned s b i)
unfolding result_of_action
plain_action owned s b (action.Operate o) is = tt
plain_action owned s b (action.Multiply m) is = tt
plain_action owned s b (action.Transfer t) is = plain_or_fault (result_of_transfer owned s b t)
plain_action owned s b (action.BlockTransfer t) is = plain_or_fault (result_of_block_transfer owned s b t)
plain_action owned s b (action.Branch links distance) is = tt
plain_action owned s b (action.SoftwareInterrupt n) is = absurd (false≢true is)

plain_decoded : (owned : ℕ → Bool) (s : State) (b : Bytes) (i : Result (Condition × Action) Fault)
    → is_none (swi_if_decoded i) ≡ true → IsPlainTurn (acted_if_decoded owned s b i)
plain_decoded owned s b (Ok i) is = plain_action owned s b i.1 is
plain_decoded owned s b (Err f) is = tt

plain_word : (owned : ℕ → Bool) (s : State) (b : Bytes) (w : ℕ) → is_plain (cause_if_fetched s (Ok w)) ≡ true
    → IsPlainTurn (result_of_word owned s b w)
plain_word owned s b w is = elim (cases_Bool (condition_holds (condition_in w) s.psr)) [
  | inl met ↦ rw met (plain_decoded owned s b (instruction_of_word w) (rw met at is))
  | inr fails ↦ rw fails tt
]

plain_fetched : (owned : ℕ → Bool) (s : State) (b : Bytes) (r : Result ℕ Fault) → is_plain (cause_if_fetched s r) ≡ true
    → IsPlainTurn (executed_if_fetched owned s b r)
plain_fetched owned s b (Ok w) is = plain_word owned s b w is
plain_fetched owned s b (Err f) is = tt

plain_turn : (owned : ℕ → Bool) (s : State) (b : Bytes) → is_plain (cause_of s b) ≡ true → IsPlainTurn (result_of_step owned s b)
unfolding result_of_step
plain_turn owned s b is = elim (cases_Bool (s.pc == return_gate)) [
  | inl gate ↦ absurd (false≢true (rw gate at is))
  | inr other ↦ rw other (plain_fetched owned s b (word_loaded b s.pc) (rw other at is))
]

-- WHERE THE WORDS BEGIN

aligned_transfer : (s : State) (t : Transfer) → (words_of_transfer s t).at % 4 ≡ 0
aligned_transfer s t = elim (cases_Bool t.loads) [
  | inl loads ↦ rw loads refl
  | inr stores ↦ rw stores (omega arith)
]

aligned_block : (s : State) (t : BlockTransfer) → (words_of_block s t).at % 4 ≡ 0
aligned_block s t = elim (cases_Bool t.loads) [
  | inl loads ↦ rw loads refl
  | inr stores ↦ rw stores (omega arith)
]

aligned_action : (s : State) (i : Action) → (words_of_action s i).at % 4 ≡ 0
aligned_action s (action.Transfer t) = aligned_transfer s t
aligned_action s (action.BlockTransfer t) = aligned_block s t
aligned_action s (action.Operate o) = refl
aligned_action s (action.Multiply m) = refl
aligned_action s (action.Branch links distance) = refl
aligned_action s (action.SoftwareInterrupt n) = refl

aligned_decoded : (s : State) (i : Result (Condition × Action) Fault) → (words_if_decoded s i).at % 4 ≡ 0
aligned_decoded s (Ok i) = aligned_action s i.1
aligned_decoded s (Err f) = refl

aligned_words : (c : Cause) (s : State) → (stored_words c s).at % 4 ≡ 0
aligned_words (Word w) s = aligned_decoded s (instruction_of_word w)
aligned_words (Skipped w) s = refl
aligned_words Gate s = refl
aligned_words Unmapped s = refl

-- WHAT IT LEAVES

abbrev Left : StoredWords → MachineState → MachineState → Type 0
Left words s t = (a : ℕ) → t.store.bytes.at a ≢ s.store.bytes.at a → IsInWords words a

-- a byte of a word that isn't shown is as it was
byte_kept : (words : StoredWords) (s t : MachineState) (a k : ℕ) → Left words s t → words.at % 4 ≡ 0 → a % 4 ≡ 0 → k < 4
    → in_range words.at (4 * words.count) a ≡ false → t.store.bytes.at (a + k) ≡ s.store.bytes.at (a + k)
byte_kept words s t a k left aligned whole few out = elim (cases_Bool (t.store.bytes.at (a + k) == s.store.bytes.at (a + k))) [
  | inl same ↦ eqb-true (t.store.bytes.at (a + k)) (s.store.bytes.at (a + k)) same
  | inr apart ↦
      let differs : t.store.bytes.at (a + k) ≢ s.store.bytes.at (a + k) =
      λ e. false≢true (sym apart ∙ eq-eqb (t.store.bytes.at (a + k)) (s.store.bytes.at (a + k)) e) in
      let within : in_range words.at (4 * words.count) (a + k) ≡ true = left (a + k) differs in
      absurd (grind (arith, nat_tests, within, out, aligned, whole, few))
]

word_kept : (words : StoredWords) (s t : MachineState) → Left words s t → words.at % 4 ≡ 0 → (a : ℕ) → a % 4 ≡ 0
    → in_range words.at (4 * words.count) a ≡ false → word_at t.store.bytes.at a ≡ word_at s.store.bytes.at a
word_kept words s t left aligned a whole out =
    let byte = λ (k : ℕ) (few : k < 4). byte_kept words s t a k left aligned whole few out in
    let none : a + 0 ≡ a = omega arith in
    let first : t.store.bytes.at a ≡ s.store.bytes.at a =
    subst (λ (n : ℕ). t.store.bytes.at n ≡ s.store.bytes.at n) none (byte 0 (omega arith)) in
    rw (first, byte 1 (omega arith), byte 2 (omega arith), byte 3 (omega arith)) refl

same_store : (words : StoredWords) (s t : MachineState) → words.at % 4 ≡ 0 → t.store ≡ s.store → StoresWords words s t
same_store words s t aligned same = record {
  halted = λ halt a. ap (λ v. word_at v.bytes.at a) same;
  stored = λ a whole out. ap (λ v. word_at v.bytes.at a) same;
  aligned = aligned;
}

module _ (images : List Entry) (s : MachineState) (words : StoredWords) (aligned : words.at % 4 ≡ 0) where
  by_turn : (r : Result (State × Bytes) StepEnd) → s.halt ≡ None → IsPlainTurn r → Left words s (outcome_of_turn images s r).now
      → StoresWords words s (outcome_of_turn images s r).now
  by_turn (Ok w) unhalted plain left = record {
    halted = λ halt. absurd (false≢true (subst IsSome unhalted halt));
    stored = word_kept words s (outcome_of_turn images s (Ok w)).now left aligned;
    aligned = aligned;
  }
  by_turn (Err (turn.Fault f)) unhalted plain left = same_store words s (outcome_of_turn images s (Err (turn.Fault f))).now aligned refl
  by_turn (Err turn.Done) unhalted plain left = absurd plain
  by_turn (Err turn.Gate) unhalted plain left = absurd plain
  by_turn (Err (turn.Swi n)) unhalted plain left = absurd plain

  by_halt : (h : Option Halt) (r : Result (State × Bytes) StepEnd) → s.halt ≡ h → IsPlainTurn r
      → (h ≡ None → Left words s (outcome_of_turn images s r).now) → StoresWords words s (unless_halted s h (outcome_of_turn images s r)).now
  by_halt (Some h) r is plain left = same_store words s s aligned refl
  by_halt None r is plain left = by_turn r is plain (left refl)

-- what a turn that isn't done leaves, and one that is
left_by : StoresAreShown → (images : List Entry) (s : MachineState) (r : Result (State × Bytes) StepEnd) → s.halt ≡ None → result_of_instruction s ≡ r
    → IsPlainTurn r → Left (stored_words (cause_of s.cpu s.store.bytes) s.cpu) s (outcome_of_turn images s r).now
unfolding machine_step
left_by shown images s (Ok w) unhalted is plain a differs =
    let stepped : machine_step images s ≡ outcome_of_turn images s (Ok w) =
    ap (λ h. unless_halted s h (outcome_of_turn images s (result_of_instruction s))) unhalted ∙ ap (outcome_of_turn images s) is in
    shown images s w a unhalted is (λ e. differs (ap (λ o. o.now.store.bytes.at a) (sym stepped) ∙ e))
left_by shown images s (Err (turn.Fault f)) unhalted is plain a differs = absurd (differs refl)
left_by shown images s (Err turn.Done) unhalted is plain a differs = absurd plain
left_by shown images s (Err turn.Gate) unhalted is plain a differs = absurd plain
left_by shown images s (Err (turn.Swi n)) unhalted is plain a differs = absurd plain

pub kept : StoresAreShown → PlainStepsStore
unfolding machine_step
kept shown images s is =
    let plain : IsPlainTurn (result_of_instruction s) = plain_turn (owned_in s.store) s.cpu s.store.bytes is in
    by_halt images s (stored_words (cause_of s.cpu s.store.bytes) s.cpu) (aligned_words (cause_of s.cpu s.store.bytes) s.cpu)
    s.halt (result_of_instruction s) refl plain
    (λ unhalted. left_by shown images s (result_of_instruction s) unhalted refl plain)
