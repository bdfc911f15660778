-- Each way to store keeps the owned bytes, so a step does.
use Rattle.std.proofs.Common.{◌≡◌, ℕ, ◌+◌, ◌-◌, ◌%◌, ◌^◌, Bool, true, false, cond, not, ◌&&◌, nat_le, nat_lt, nat_eq, List, [], ◌∷◌, length, refl, ap, sym, ◌∙◌, arith, Option, Some, None, Result, Ok, Err, subst, lit<}
use Rattle.std.proofs.lemmas.Bool.Decides.{nat_tests}
use Rattle.address_map.specs.Outcome.{bind}
use Rattle.arm_core.specs.Fault.{Fault}
use Rattle.arm_core.specs.Fault.TheVariants.{AddressException, DataUnmapped, OwnedWord}
use Rattle.address_map.specs.Bytes.{Bytes, ok_unless_fault, store_fault, with_byte, with_word, byte_stored, word_stored, word_loaded}
use Rattle.arm_decode.specs.Decoded.{instruction_of_word}
use Rattle.arm_decode.specs.Fields.{condition_in}
use Rattle.arm_decode.specs.declared.action.Action.{Action}
use Rattle.arm_decode.specs.declared.action.Action.TheVariants as action
use Rattle.arm_decode.specs.declared.action.Transfer.{Transfer}
use Rattle.arm_decode.specs.declared.action.BlockTransfer.{BlockTransfer}
use Rattle.arm_decode.specs.declared.condition.Condition.{Condition}
use Rattle.arm_core.specs.declared.turn.StepEnd.{StepEnd}
use Rattle.arm_core.specs.Conditions.{condition_holds}
use Rattle.arm_core.specs.State.{State}
use Rattle.arm_core.specs.Effect.{with_next_pc}
use Rattle.arm_step.specs.Words.{are_free, are_words_mapped, with_words, words_stored}
use Rattle.arm_step.specs.Transfers.{result_of_load, result_of_store, result_of_transfer, value_stored, transfer_address}
use Rattle.arm_step.specs.Blocks.{block_loaded, block_stored, result_of_block_transfer, block_start, block_values}
use Rattle.arm_step.specs.Step.{or_fault, result_of_action, acted_if_decoded, executed_if_fetched, result_of_step}
use Rattle.arm_step.specs.OwnedBytes.{IsByWords, KeepsOwnedBytes, StepKeeps}

abbrev KeptBy : (ℕ → Bool) → Bytes → Result Bytes Fault → Type 0
KeptBy owned b (Ok c) = KeepsOwnedBytes owned b c
KeptBy owned b (Err f) = Unit {0}

abbrev KeptWith : {E : Type 0} → (ℕ → Bool) → Bytes → Result (State × Bytes) E → Type 0
KeptWith owned b (Ok w) = KeepsOwnedBytes owned b w.1
KeptWith owned b (Err e) = Unit {0}

same : (owned : ℕ → Bool) (b : Bytes) → KeepsOwnedBytes owned b b
same owned b = record { mapped = refl; bytes = λ a h. refl }

then : (owned : ℕ → Bool) (b c d : Bytes) → KeepsOwnedBytes owned b c → KeepsOwnedBytes owned c d → KeepsOwnedBytes owned b d
then owned b c d h g = record { mapped = g.mapped ∙ h.mapped; bytes = λ a o. g.bytes a o ∙ h.bytes a o }

unless_fault : (owned : ℕ → Bool) (b c : Bytes) (f : Option Fault) → (f ≡ None → KeepsOwnedBytes owned b c) → KeptBy owned b (ok_unless_fault f c)
unless_fault owned b c None h = h refl
unless_fault owned b c (Some f) h = tt

free_by : (far mapped owned : Bool) → cond far (Some AddressException) (cond mapped (cond owned (Some OwnedWord) None) (Some DataUnmapped)) ≡ None → owned ≡ false
free_by true mapped owned h = absurd (cc)
free_by false false owned h = absurd (cc)
free_by false true true h = absurd (cc)
free_by false true false h = refl

free_at : (owned : ℕ → Bool) (b : Bytes) (a : ℕ) → store_fault owned b a ≡ None → owned a ≡ false
free_at owned b a h = free_by (nat_le (2 ^ 26) a) (b.mapped a) (owned a) h

equal_by : (x a : ℕ) → nat_eq x a ≡ true → x ≡ a
equal_by x a e = grind (arith, nat_tests)

apart_by : (owned : ℕ → Bool) (x a v y z : ℕ) (r : Bool) → nat_eq x a ≡ r → owned x ≡ true → owned a ≡ false → z ≡ y → cond r v z ≡ y
apart_by owned x a v y z true e o f h = let met : x ≡ a = equal_by x a e in let both : owned x ≡ owned a = ap owned met in absurd (cc)
apart_by owned x a v y z false e o f h = h

-- one byte of a write: owned bytes lie elsewhere
elsewhere : (owned : ℕ → Bool) (x a v y z : ℕ) → owned x ≡ true → owned a ≡ false → z ≡ y → cond (nat_eq x a) v z ≡ y
elsewhere owned x a v y z o f h = apart_by owned x a v y z (nat_eq x a) refl o f h

byte_kept : (owned : ℕ → Bool) (b : Bytes) (a v : ℕ) → owned a ≡ false → KeepsOwnedBytes owned b (with_byte b a v)
byte_kept owned b a v f = record { mapped = refl; bytes = λ x o. elsewhere owned x a v (b.at x) (b.at x) o f refl }

word_kept : (owned : ℕ → Bool) (b : Bytes) (a w : ℕ) → IsByWords owned → a % 4 ≡ 0 → owned a ≡ false → KeepsOwnedBytes owned b (with_word b a w)
word_kept owned b a w h g f =
    let one : owned (a + 1) ≡ false = h a 1 g (lit< tt) ∙ f in
    let two : owned (a + 2) ≡ false = h a 2 g (lit< tt) ∙ f in
    let three : owned (a + 3) ≡ false = h a 3 g (lit< tt) ∙ f in
    record {
      mapped = refl;
      bytes = λ x o. elsewhere owned x a _ (b.at x) _ o f (elsewhere owned x (a + 1) _ (b.at x) _ o one (
          elsewhere owned x (a + 2) _ (b.at x) _ o two (elsewhere owned x (a + 3) _ (b.at x) _ o three refl)));
    }

both_left : (x y : Bool) → (not x && y) ≡ true → x ≡ false
both_left true y e = sym e
both_left false y e = refl

both_right : (x y : Bool) → (not x && y) ≡ true → y ≡ true
both_right true y e = absurd (cc)
both_right false y e = e

words_kept : (owned : ℕ → Bool) (b : Bytes) (a : ℕ) (ws : List ℕ) → IsByWords owned → a % 4 ≡ 0 → are_free owned a (length ws) ≡ true → KeepsOwnedBytes owned b (with_words b a ws)
unfolding with_words are_free
words_kept owned b a [] h g f = same owned b
words_kept owned b a (w ∷ ws) h g f =
    let next : (a + 4) % 4 ≡ 0 = omega arith in
    then owned b (with_word b a w) (with_words (with_word b a w) (a + 4) ws) (word_kept owned b a w h g (both_left (owned a) _ f))
    (words_kept owned (with_word b a w) (a + 4) ws h next (both_right (owned a) _ f))

free_words_by : (far mapped free : Bool) → cond far (Some AddressException) (cond mapped (cond free None (Some OwnedWord)) (Some DataUnmapped)) ≡ None → free ≡ true
free_words_by true mapped free h = absurd (cc)
free_words_by false false free h = absurd (cc)
free_words_by false true false h = absurd (cc)
free_words_by false true true h = refl

stored_words : (owned : ℕ → Bool) (b : Bytes) (a : ℕ) (ws : List ℕ) → IsByWords owned → a % 4 ≡ 0 → KeptBy owned b (words_stored owned b a ws)
stored_words owned b a ws h g =
    unless_fault owned b (with_words b a ws) _ (λ e. words_kept owned b a ws h g (free_words_by (nat_lt (2 ^ 26) _) (are_words_mapped b a (length ws)) (are_free owned a (length ws)) e))

stored_value : (owned : ℕ → Bool) (b : Bytes) (is_byte : Bool) (a v : ℕ) → IsByWords owned → KeptBy owned b (value_stored owned b is_byte a v)
unfolding byte_stored word_stored
stored_value owned b true a v h = unless_fault owned b _ _ (λ e. byte_kept owned b a _ (free_at owned b a e))
stored_value owned b false a v h =
    let start : (a - a % 4) % 4 ≡ 0 = omega arith in
    unless_fault owned b _ _ (λ e. word_kept owned b (a - a % 4) _ h start (free_at owned b (a - a % 4) e))

bound : (owned : ℕ → Bool) (b : Bytes) (t : State) (r : Result Bytes Fault) → KeptBy owned b r → KeptWith {E = Fault} owned b (bind r (λ c. Ok (t, c)))
bound owned b t (Ok c) h = h
bound owned b t (Err f) h = tt

read : {A : Type 0} (owned : ℕ → Bool) (b : Bytes) (t : A → State) (r : Result A Fault) → KeptWith {E = Fault} owned b (bind r (λ v. Ok (t v, b)))
read owned b t (Ok v) = same owned b
read owned b t (Err f) = tt

transfer_kept : (owned : ℕ → Bool) (s : State) (b : Bytes) (t : Transfer) (loads : Bool) → IsByWords owned → KeptWith owned b (cond loads (result_of_load s b t) (result_of_store owned s b t))
transfer_kept owned s b t true h = read owned b _ _
transfer_kept owned s b t false h = bound owned b _ _ (stored_value owned b t.is_byte (transfer_address s t.address) _ h)

block_kept : (owned : ℕ → Bool) (s : State) (b : Bytes) (t : BlockTransfer) (loads : Bool) → IsByWords owned → KeptWith owned b (cond loads (block_loaded s b t) (block_stored owned s b t))
block_kept owned s b t true h = read owned b _ _
block_kept owned s b t false h = bound owned b _ _ (stored_words owned b (block_start s t) (block_values s t) h (omega arith))

or_fault_kept : (owned : ℕ → Bool) (b : Bytes) (r : Result (State × Bytes) Fault) → KeptWith owned b r → KeptWith owned b (or_fault r)
or_fault_kept owned b (Ok w) h = h
or_fault_kept owned b (Err f) h = tt

action_kept : (owned : ℕ → Bool) (s : State) (b : Bytes) (a : Action) → IsByWords owned → KeptWith owned b (result_of_action owned s b a)
unfolding result_of_action result_of_transfer result_of_block_transfer
action_kept owned s b (action.Operate o) h = same owned b
action_kept owned s b (action.Multiply m) h = same owned b
action_kept owned s b (action.Transfer t) h = or_fault_kept owned b _ (transfer_kept owned s b t t.loads h)
action_kept owned s b (action.BlockTransfer t) h = or_fault_kept owned b _ (block_kept owned s b t t.loads h)
action_kept owned s b (action.Branch links distance) h = same owned b
action_kept owned s b (action.SoftwareInterrupt n) h = tt

decoded_kept : (owned : ℕ → Bool) (s : State) (b : Bytes) (r : Result (Condition × Action) Fault) → IsByWords owned → KeptWith owned b (acted_if_decoded owned s b r)
decoded_kept owned s b (Ok i) h = action_kept owned s b i.1 h
decoded_kept owned s b (Err f) h = tt

met_kept : (owned : ℕ → Bool) (s : State) (b : Bytes) (w : ℕ) (met : Bool) → IsByWords owned → KeptWith owned b (cond met (acted_if_decoded owned s b (instruction_of_word w)) (Ok (with_next_pc s, b)))
met_kept owned s b w true h = decoded_kept owned s b (instruction_of_word w) h
met_kept owned s b w false h = same owned b

fetched_kept : (owned : ℕ → Bool) (s : State) (b : Bytes) (r : Result ℕ Fault) → IsByWords owned → KeptWith owned b (executed_if_fetched owned s b r)
fetched_kept owned s b (Ok w) h = met_kept owned s b w (condition_holds (condition_in w) s.psr) h
fetched_kept owned s b (Err f) h = tt

at_kept : (owned : ℕ → Bool) (s : State) (b : Bytes) (gate : Bool) → IsByWords owned → KeptWith owned b (cond gate (Err StepEnd.Gate) (executed_if_fetched owned s b (word_loaded b s.pc)))
at_kept owned s b true h = tt
at_kept owned s b false h = fetched_kept owned s b (word_loaded b s.pc) h

of_ok : (owned : ℕ → Bool) (b : Bytes) (r : Result (State × Bytes) StepEnd) (t : State) (c : Bytes) → KeptWith owned b r → r ≡ Ok (t, c) → KeepsOwnedBytes owned b c
of_ok owned b (Ok w) t c h e = let same_bytes : w.1 ≡ c = cc in subst (λ (d : Bytes). KeepsOwnedBytes owned b d) same_bytes h
of_ok owned b (Err f) t c h e = absurd (cc)

pub step_keeps : (owned : ℕ → Bool) (s : State) (b : Bytes) → StepKeeps owned s b
unfolding result_of_step
step_keeps owned s b h t c e = of_ok owned b _ t c (at_kept owned s b (nat_eq s.pc 0x03800000) h) e
