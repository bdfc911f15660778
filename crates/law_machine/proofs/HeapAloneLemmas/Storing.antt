-- An instruction leaves each byte that it doesn't store to.
use Rattle.profile.specs.MemoryMap.{return_gate}
use Rattle.std.proofs.Common.{ℕ, suc, ◌≡◌, ◌+◌, ◌*◌, ◌%◌, ◌==◌, ◌&&◌, Bool, not, true, false, List, [], ◌∷◌, map, length, Option, Some, None, Result, Ok, Err, refl, sym, ap, subst, ◌∙◌, inl, inr, arith, if◌then◌else◌}
use Rattle.std.proofs.lemmas.Bool.{cases_Bool}
use Rattle.std.proofs.lemmas.Bool.Decides.{nat_tests}
use Rattle.profile.specs.Outcome.{bind}
use Rattle.profile.specs.Fault.{Fault}
use Rattle.address_map.specs.Bytes.{Bytes, byte_stored, in_range, ok_unless_fault, with_byte_at, with_word, with_word_at, word_loaded, word_start, word_stored}
use Rattle.arm_decode.specs.Decoded.{instruction_of_word}
use Rattle.arm_decode.specs.Fields.{condition_in}
use Rattle.arm_decode.specs.declared.action.Action.{Action}
use Rattle.arm_decode.specs.declared.action.Action.TheVariants as action
use Rattle.arm_decode.specs.declared.action.BlockTransfer.{BlockTransfer}
use Rattle.arm_decode.specs.declared.action.Transfer.{Transfer}
use Rattle.arm_decode.specs.declared.condition.Condition.{Condition}
use Rattle.arm_core.specs.declared.turn.StepEnd.{StepEnd}
use Rattle.arm_core.specs.Listed.{registers_of_list}
use Rattle.swi_dispatch_guest.specs.ArmStepBlocks.{block_base, block_loaded, transferred_count, block_start, block_stored, result_of_block_transfer, block_value, block_values, with_block_base}
use Rattle.arm_core.specs.Conditions.{condition_holds}
use Rattle.arm_core.specs.Effect.{with_next_pc}
use Rattle.arm_core.specs.State.{State}
use Rattle.swi_dispatch_guest.specs.ArmStepStep.{result_of_action, acted_if_decoded, executed_if_fetched, or_fault, result_of_step}
use Rattle.swi_dispatch_guest.specs.Transfers.{moved_base, transfer_address, result_of_transfer, value_stored, with_base}
use Rattle.swi_dispatch_guest.specs.Words.{with_words, words_store_fault}
use Rattle.law_machine.specs.heap_alone.Storing.{StepsLeaveBytes, is_stored, is_stored_at, stores_by, stores_if_decoded, stores_if_fetched}

abbrev LeavesByte : (F : Type 0) → Bytes → ℕ → Result (State × Bytes) F → Type 0
LeavesByte F b a (Ok w) = w.1.at a ≡ b.at a
LeavesByte F b a (Err f) = Unit {0}

left_unless : (o : Option Fault) (b c : Bytes) (a : ℕ) (s : State) → c.at a ≡ b.at a → LeavesByte Fault b a (bind (ok_unless_fault o c) (λ d. Ok (s, d)))
left_unless None b c a s same = same
left_unless (Some f) b c a s same = tt

left_loaded : (A : Type 0) (b : Bytes) (a : ℕ) (k : A → State) (r : Result A Fault) → LeavesByte Fault b a (bind r (λ v. Ok (k v, b)))
left_loaded A b a k (Ok v) = refl
left_loaded A b a k (Err f) = tt

left_or : (b : Bytes) (a : ℕ) (r : Result (State × Bytes) Fault) → LeavesByte Fault b a r → LeavesByte StepEnd b a (or_fault r)
left_or b a (Ok w) same = same
left_or b a (Err f) same = tt

byte_past : (f : ℕ → ℕ) (at byte a : ℕ) → in_range at 1 a ≡ false → with_byte_at f at byte a ≡ f a
byte_past f at byte a out = grind (arith, nat_tests)

pub word_past : (f : ℕ → ℕ) (at word a : ℕ) → in_range at 4 a ≡ false → with_word_at f at word a ≡ f a
word_past f at word a out = grind (arith, nat_tests)

first_word : (at n a : ℕ) → in_range at (4 * (n + 1)) a ≡ false → in_range at 4 a ≡ false
first_word at n a out = grind (arith, nat_tests)

other_words : (at n a : ℕ) → in_range at (4 * (n + 1)) a ≡ false → in_range (at + 4) (4 * n) a ≡ false
other_words at n a out = grind (arith, nat_tests)

words_past : (b : Bytes) (at : ℕ) (ws : List ℕ) (a : ℕ) → in_range at (4 * length ws) a ≡ false → (with_words b at ws).at a ≡ b.at a
unfolding with_words
words_past b at [] a out = refl
words_past b at (w ∷ ws) a out =
    let more : length (w ∷ ws) ≡ length ws + 1 = omega arith in
    let out' : in_range at (4 * (length ws + 1)) a ≡ false = subst (λ (n : ℕ). in_range at (4 * n) a ≡ false) more out in
    words_past (with_word b at w) (at + 4) ws a (other_words at (length ws) a out') ∙ word_past b.at at w a (first_word at (length ws) a out')

value_left : (owned : ℕ → Bool) (s : State) (b : Bytes) (is_byte : Bool) (at v a : ℕ) → is_stored_at is_byte at a ≡ false
    → LeavesByte Fault b a (bind (value_stored owned b is_byte at v) (λ c. Ok (s, c)))
unfolding byte_stored word_stored
value_left owned s b true at v a out = left_unless _ b _ a s (byte_past b.at at (v % 256) a out)
value_left owned s b false at v a out = left_unless _ b _ a s (word_past b.at (word_start at) v a out)

transfer_left : (owned : ℕ → Bool) (s : State) (b : Bytes) (t : Transfer) (a : ℕ) → stores_by s (action.Transfer t) a ≡ false
    → LeavesByte Fault b a (result_of_transfer owned s b t)
unfolding result_of_transfer
transfer_left owned s b t a out = elim (cases_Bool t.loads) [
  | inl loads ↦ rw loads (left_loaded ℕ b a _ _)
  | inr stores ↦ rw stores (value_left owned (with_base (with_next_pc s) t.address (moved_base s t.address)) b t.is_byte (transfer_address s t.address) _ a
      (rw stores at out))
]

values_length : (k : ℕ → ℕ) (rs : List ℕ) → length (map k rs) ≡ length rs
values_length k [] = refl
values_length k (r ∷ rs) = ap suc (values_length k rs)

block_by : (owned : ℕ → Bool) (s : State) (b : Bytes) (t : BlockTransfer) (a : ℕ) (loads : Bool)
    → (not loads && in_range (block_start s t) (4 * transferred_count t) a) ≡ false
    → LeavesByte Fault b a (if loads then block_loaded s b t else block_stored owned s b t)
block_by owned s b t a true out = left_loaded (List ℕ) b a _ _
block_by owned s b t a false out =
    let past : in_range (block_start s t) (4 * length (block_values s t)) a ≡ false =
    subst (λ (n : ℕ). in_range (block_start s t) (4 * n) a ≡ false) (sym (values_length (block_value s t) (registers_of_list t.list))) out in
    left_unless (words_store_fault owned b (block_start s t) (length (block_values s t))) b
    (with_words b (block_start s t) (block_values s t)) a (with_block_base (with_next_pc s) t (block_base s t))
    (words_past b (block_start s t) (block_values s t) a past)

block_left : (owned : ℕ → Bool) (s : State) (b : Bytes) (t : BlockTransfer) (a : ℕ) → stores_by s (action.BlockTransfer t) a ≡ false
    → LeavesByte Fault b a (result_of_block_transfer owned s b t)
unfolding result_of_block_transfer
block_left owned s b t a out = block_by owned s b t a t.loads out

acted_left : (owned : ℕ → Bool) (s : State) (b : Bytes) (i : Action) (a : ℕ) → stores_by s i a ≡ false → LeavesByte StepEnd b a (result_of_action owned s b i)
unfolding result_of_action
acted_left owned s b (action.Operate o) a out = refl
acted_left owned s b (action.Multiply m) a out = refl
acted_left owned s b (action.Transfer t) a out = left_or b a (result_of_transfer owned s b t) (transfer_left owned s b t a out)
acted_left owned s b (action.BlockTransfer t) a out = left_or b a (result_of_block_transfer owned s b t) (block_left owned s b t a out)
acted_left owned s b (action.Branch links distance) a out = refl
acted_left owned s b (action.SoftwareInterrupt n) a out = tt

decoded_left : (owned : ℕ → Bool) (s : State) (b : Bytes) (r : Result (Condition × Action) Fault) (a : ℕ) → stores_if_decoded s r a ≡ false
    → LeavesByte StepEnd b a (acted_if_decoded owned s b r)
decoded_left owned s b (Ok i) a out = acted_left owned s b i.1 a out
decoded_left owned s b (Err f) a out = tt

fetched_left : (owned : ℕ → Bool) (s : State) (b : Bytes) (r : Result ℕ Fault) (a : ℕ) → stores_if_fetched s r a ≡ false
    → LeavesByte StepEnd b a (executed_if_fetched owned s b r)
fetched_left owned s b (Ok w) a out = elim (cases_Bool (condition_holds (condition_in w) s.psr)) [
  | inl is ↦ rw is (decoded_left owned s b (instruction_of_word w) a (rw is at out))
  | inr fails ↦ rw fails refl
]
fetched_left owned s b (Err f) a out = tt

stepped_left : (owned : ℕ → Bool) (s : State) (b : Bytes) (a : ℕ) → is_stored s b a ≡ false → LeavesByte StepEnd b a (result_of_step owned s b)
unfolding result_of_step is_stored
stepped_left owned s b a out = elim (cases_Bool (s.pc == return_gate)) [
  | inl gate ↦ rw gate tt
  | inr other ↦ rw other (fetched_left owned s b (word_loaded b s.pc) a (rw other at out))
]

pub step_past : StepsLeaveBytes
step_past owned s t b c a is out = subst (LeavesByte StepEnd b a) is (stepped_left owned s b a out)
