-- LDR and STR.
use Rattle.std.proofs.Common.{◌≡◌, ◌<◌, ◌+◌, ◌*◌, ◌%◌, ◌^◌, ℕ, Bool, true, false, Result, Ok, Err, refl, sym, ◌∙◌, ap, subst, arith, if◌then◌else◌}
use Rattle.arm_core.specs.Outcome.{bind}
use Rattle.arm_core.specs.Word.{bit_of, field}
use Rattle.arm_core.specs.Fault.{Fault}
use Rattle.arm_step.specs.Bytes.{Bytes}
use Rattle.arm_core.specs.Fields.{address_in, shifted_in, transfer_in}
use Rattle.arm_core.specs.Names.{direction_of, shift_of}
use Rattle.arm_core.specs.Refusals.{writes_base}
use Rattle.arm_core.specs.Action.TheVariants as action
use Rattle.arm_core.specs.Transfer.{Transfer}
use Rattle.arm_step.specs.Address.{Address}
use Rattle.arm_core.specs.Indexing.{Indexing}
use Rattle.arm_core.specs.Offset.{Offset}
use Rattle.arm_core.specs.Offset.TheVariants as offset
use Rattle.arm_core.specs.Condition.TheVariants as condition
use Rattle.arm_core.specs.Shift.{Shift}
use Rattle.arm_core.specs.Shift.TheVariants as shift
use Rattle.arm_core.specs.Effect.{plain_operand, status_operand, with_next_pc, with_result}
use Rattle.arm_core.specs.Operand.{shifted_by_number}
use Rattle.arm_core.specs.State.{State, register_in, with_register}
use Rattle.arm_core.specs.declared.turn.StepEnd.{StepEnd}
use Rattle.arm_step.specs.Step.{or_fault, result_of_action, result_of_word}
use Rattle.arm_step.specs.Transfers.{address_by, moved_base, moved_by, result_of_load, result_of_store, result_of_transfer, transfer_address, value_loaded, value_stored, with_base}
use Rattle.arm_predecode.specs.Kinds.{LoadsBeside, Transfers, TransfersByNumber, TransfersByRegister}
use Rattle.arm_predecode.specs.OpValue.{OpValue}
use Rattle.arm_run.specs.Moved.{address_reached, base_moved, with_base_if, with_moved_base}
use Rattle.arm_run.specs.Standing.{core_at}
use Rattle.arm_run.proofs.Carried.{carried}
use Rattle.arm_run.proofs.OperandsRead.{first_read, other_below, status_read}
use Rattle.arm_run.proofs.Positions.{next_position}
use Rattle.arm_run.proofs.Transferred.{based_by, loaded_by, number_moves}
use Rattle.arm_run.specs.decoded.Effects.{load_effect, store_effect, number_added, register_added}
use Rattle.arm_run.specs.decoded.Laws.{NumbersTransfer, RegistersTransfer, WordsBesideLoad}

-- What follows a value is the same where it is the same for each value.
pub bound_alike : {A B : Type 0} (x : Result A Fault) (f g : A → Result B Fault) → ((a : A) → f a ≡ g a) → bind x f ≡ bind x g
bound_alike (Ok a) f g h = h a
bound_alike (Err e) f g h = refl

-- The offset moves the base by what is added to it.
abbrev MovesBy : State → ℕ → Offset → ℕ → OpValue → Type 0
MovesBy s at by added r = moved_base (core_at s at) (address_in by r.word) ≡ base_moved s r added

pub base_read : (at n k : ℕ) (s : State) → k < 15 → k ≡ n → plain_operand (core_at s at) n 2 ≡ register_in s.psr.mode s k
base_read at n k s below e = first_read s at n 2 (subst (λ (x : ℕ). x < 15) e below) ∙ ap (λ (x : ℕ). register_in s.psr.mode s x) (sym e)

number_moves_base : (s : State) (at : ℕ) (loads is_byte : Bool) (way : Indexing) (r : OpValue) → TransfersByNumber loads is_byte way r
    → MovesBy s at (offset.Immediate (field r.word 0 12)) r.value r
number_moves_base s at loads is_byte way r h =
    let small : field r.word 0 12 < 2 ^ 12 = omega arith in
    ap (λ (x : ℕ). moved_by (direction_of (bit_of r.word 23)) x (field r.word 0 12)) (base_read at (field r.word 16 4) r.rn s h.transfers.rn_below h.transfers.rn)
    ∙ number_moves (bit_of r.word 23) (register_in s.psr.mode s r.rn) (field r.word 0 12) r.value small h.value

offset_is : (s : State) (at : ℕ) (loads is_byte : Bool) (way : Indexing) (r : OpValue) → TransfersByRegister loads is_byte way r
    → (shifted_by_number (shift_of (field r.word 5 2)) (status_operand s.psr.mode (core_at s at) (field r.word 0 4) 2) (field r.word 7 5) s.psr.carry).value ≡ register_added r s
offset_is s at loads is_byte way r h =
    let x : ℕ = status_operand s.psr.mode (core_at s at) (field r.word 0 4) 2 in
    let rm : field r.word 0 4 < 15 = subst (λ (k : ℕ). k < 15) h.rm h.rm_below in
    ap (λ (k : Shift). (shifted_by_number k x (field r.word 7 5) s.psr.carry).value) h.shift
    ∙ ap (λ (n : ℕ). (shifted_by_number shift.LogicalLeft x n s.psr.carry).value) (sym h.amount)
    ∙ ap (λ (v : ℕ). (shifted_by_number shift.LogicalLeft v r.value s.psr.carry).value)
    (status_read s at (field r.word 0 4) 2 rm ∙ ap (λ (k : ℕ). register_in s.psr.mode s k) (sym h.rm))

register_moves_base : (s : State) (at : ℕ) (loads is_byte : Bool) (way : Indexing) (r : OpValue) → TransfersByRegister loads is_byte way r
    → MovesBy s at (offset.Shifted (shifted_in r.word)) (register_added r s) r
register_moves_base s at loads is_byte way r h =
    let base : ℕ = plain_operand (core_at s at) (field r.word 16 4) 2 in
    ap (λ (u : Bool). moved_by (direction_of u) base (shifted_by_number (shift_of (field r.word 5 2)) (status_operand s.psr.mode (core_at s at) (field r.word 0 4) 2) (field r.word 7 5) s.psr.carry).value) h.up
    ∙ ap (λ (x : ℕ). (base + x) % 2 ^ 32) (offset_is s at loads is_byte way r h)
    ∙ ap (λ (x : ℕ). (x + register_added r s) % 2 ^ 32) (base_read at (field r.word 16 4) r.rn s h.transfers.rn_below h.transfers.rn)

-- where the transfer reads or writes, and the core with its base at the next word
reached : (s : State) (at added : ℕ) (loads is_byte : Bool) (way : Indexing) (by : Offset) (r : OpValue) → Transfers loads is_byte way by r → MovesBy s at by added r
    → transfer_address (core_at s at) (address_in by r.word) ≡ address_reached way s r added
reached s at added loads is_byte way by r h moves =
    let moved : ℕ = moved_base (core_at s at) (address_in by r.word) in
    ap (λ (i : Indexing). address_by i (plain_operand (core_at s at) (field r.word 16 4) 2) moved) h.indexing
    ∙ ap (λ (x : ℕ). address_by way x moved) (base_read at (field r.word 16 4) r.rn s h.rn_below h.rn)
    ∙ ap (λ (x : ℕ). address_by way (register_in s.psr.mode s r.rn) x) moves

base_set : (s : State) (at added : ℕ) (loads is_byte : Bool) (way : Indexing) (by : Offset) (r : OpValue) → Transfers loads is_byte way by r → MovesBy s at by added r
    → with_base (with_next_pc (core_at s at)) (address_in by r.word) (moved_base (core_at s at) (address_in by r.word)) ≡ core_at (with_moved_base way s r added) (at + 1)
base_set s at added loads is_byte way by r h moves =
    let a : Address = address_in by r.word in
    let rn : field r.word 16 4 < 15 = subst (λ (k : ℕ). k < 15) h.rn h.rn_below in
    ap (λ (t : State). with_base t a (moved_base (core_at s at) a)) (next_position s at)
    ∙ ap (λ (m : ℕ). with_base (core_at s (at + 1)) a m) moves
    ∙ ap (λ (i : Indexing). if writes_base i then with_result (core_at s (at + 1)) (field r.word 16 4) (base_moved s r added) else core_at s (at + 1)) h.indexing
    ∙ based_by s (at + 1) (field r.word 16 4) (base_moved s r added) (writes_base way) (other_below (field r.word 16 4) 15 rn)
    ∙ ap (λ (k : ℕ). core_at (with_base_if (writes_base way) s k (base_moved s r added)) (at + 1)) (sym h.rn)

register_set : (s : State) (p n k v : ℕ) → k ≡ n → k < 15 → with_result (core_at s p) n v ≡ core_at (with_register s k v) p
register_set s p n k v e below =
    loaded_by s p n v (other_below n 15 (subst (λ (x : ℕ). x < 15) e below)) ∙ ap (λ (x : ℕ). core_at (with_register s x v) p) (sym e)

loads_so : (owned : ℕ → Bool) (s : State) (at : ℕ) (b : Bytes) (is_byte : Bool) (way : Indexing) (by : Offset) (added : State → ℕ) (r : OpValue) → Transfers true is_byte way by r
    → MovesBy s at by (added s) r → result_of_word owned (core_at s at) b r.word ≡ load_effect is_byte way added r owned s at b
unfolding result_of_action result_of_transfer
loads_so owned s at b is_byte way by added r h moves =
    let t : State = core_at s at in
    let a : Address = address_in by r.word in
    let tr : Transfer = transfer_in by r.word in
    let value : value_loaded b tr.is_byte (transfer_address t a) ≡ value_loaded b is_byte (address_reached way s r (added s)) =
    ap (λ (f : Bool). value_loaded b f (transfer_address t a)) h.bytes ∙ ap (value_loaded b is_byte) (reached s at (added s) true is_byte way by r h moves) in
    let f : ℕ → Result (State × Bytes) Fault = λ v. Ok (with_result (with_base (with_next_pc t) a (moved_base t a)) (field r.word 12 4) v, b) in
    let g : ℕ → Result (State × Bytes) Fault = λ v. Ok (core_at (with_register (with_moved_base way s r (added s)) r.rd v) (at + 1), b) in
    let core : (v : ℕ) → f v ≡ g v = λ v. ap (λ (x : State). let o : Result (State × Bytes) Fault = Ok (x, b) in o)
    (ap (λ (x : State). with_result x (field r.word 12 4) v) (base_set s at (added s) true is_byte way by r h moves)
    ∙ register_set (with_moved_base way s r (added s)) (at + 1) (field r.word 12 4) r.rd v h.rd h.rd_below) in
    carried owned t b condition.Always (action.Transfer tr) r h.does refl
    ∙ ap (λ (l : Bool). let o : Result (State × Bytes) StepEnd = or_fault (if l then result_of_load t b tr else result_of_store owned t b tr) in o) h.loads
    ∙ ap (λ (x : Result ℕ Fault). let o : Result (State × Bytes) StepEnd = or_fault (bind x f) in o) value
    ∙ ap (λ (x : Result (State × Bytes) Fault). let o : Result (State × Bytes) StepEnd = or_fault x in o)
    (bound_alike (value_loaded b is_byte (address_reached way s r (added s))) f g core)

stores_so : (owned : ℕ → Bool) (s : State) (at : ℕ) (b : Bytes) (is_byte : Bool) (way : Indexing) (by : Offset) (added : State → ℕ) (r : OpValue) → Transfers false is_byte way by r
    → MovesBy s at by (added s) r → result_of_word owned (core_at s at) b r.word ≡ store_effect is_byte way added r owned s at b
unfolding result_of_action result_of_transfer
stores_so owned s at b is_byte way by added r h moves =
    let t : State = core_at s at in
    let a : Address = address_in by r.word in
    let tr : Transfer = transfer_in by r.word in
    let rd : field r.word 12 4 < 15 = subst (λ (k : ℕ). k < 15) h.rd h.rd_below in
    let there : ℕ = address_reached way s r (added s) in
    let bytes : value_stored owned b tr.is_byte (transfer_address t a) (status_operand s.psr.mode t (field r.word 12 4) 3) ≡ value_stored owned b is_byte there (register_in s.psr.mode s r.rd) =
    ap (λ (f : Bool). value_stored owned b f (transfer_address t a) (status_operand s.psr.mode t (field r.word 12 4) 3)) h.bytes
    ∙ ap (λ (x : ℕ). value_stored owned b is_byte x (status_operand s.psr.mode t (field r.word 12 4) 3)) (reached s at (added s) false is_byte way by r h moves)
    ∙ ap (λ (x : ℕ). value_stored owned b is_byte there x) (status_read s at (field r.word 12 4) 3 rd ∙ ap (λ (k : ℕ). register_in s.psr.mode s k) (sym h.rd)) in
    let after : Bytes → State → Result (State × Bytes) Fault = λ c x. Ok (x, c) in
    let core : (c : Bytes) → after c (with_base (with_next_pc t) a (moved_base t a)) ≡ after c (core_at (with_moved_base way s r (added s)) (at + 1)) =
    λ c. ap (after c) (base_set s at (added s) false is_byte way by r h moves) in
    carried owned t b condition.Always (action.Transfer tr) r h.does refl
    ∙ ap (λ (l : Bool). let o : Result (State × Bytes) StepEnd = or_fault (if l then result_of_load t b tr else result_of_store owned t b tr) in o) h.loads
    ∙ ap (λ (x : Result Bytes Fault). let o : Result (State × Bytes) StepEnd = or_fault (bind x (λ c. after c (with_base (with_next_pc t) a (moved_base t a)))) in o) bytes
    ∙ ap (λ (x : Result (State × Bytes) Fault). let o : Result (State × Bytes) StepEnd = or_fault x in o)
    (bound_alike (value_stored owned b is_byte there (register_in s.psr.mode s r.rd)) (λ c. after c (with_base (with_next_pc t) a (moved_base t a)))
    (λ c. after c (core_at (with_moved_base way s r (added s)) (at + 1))) core)

pub numbers_transfer : NumbersTransfer
numbers_transfer true is_byte way r h owned s at b core =
    loads_so owned s at b is_byte way (offset.Immediate (field r.word 0 12)) (number_added r) r h.transfers (number_moves_base s at true is_byte way r h)
numbers_transfer false is_byte way r h owned s at b core =
    stores_so owned s at b is_byte way (offset.Immediate (field r.word 0 12)) (number_added r) r h.transfers (number_moves_base s at false is_byte way r h)

pub registers_transfer : RegistersTransfer
registers_transfer true is_byte way r h owned s at b core =
    loads_so owned s at b is_byte way (offset.Shifted (shifted_in r.word)) (register_added r) r h.transfers (register_moves_base s at true is_byte way r h)
registers_transfer false is_byte way r h owned s at b core =
    stores_so owned s at b is_byte way (offset.Shifted (shifted_in r.word)) (register_added r) r h.transfers (register_moves_base s at false is_byte way r h)

-- R15 two words ahead
ahead_two : (at : ℕ) → (at % 2 ^ 24 * 4 + 4 * 2) % 2 ^ 26 ≡ (at + 2) % 2 ^ 24 * 4
ahead_two at = omega arith

moved_from_pc : (s : State) (at : ℕ) (r : OpValue) → LoadsBeside r
    → moved_base (core_at s at) (address_in (offset.Immediate (field r.word 0 12)) r.word) ≡ ((at + 2) % 2 ^ 24 * 4 + r.value) % 2 ^ 32
moved_from_pc s at r h =
    let small : field r.word 0 12 < 2 ^ 12 = omega arith in
    ap (λ (k : ℕ). moved_by (direction_of (bit_of r.word 23)) (plain_operand (core_at s at) k 2) (field r.word 0 12)) h.base
    ∙ ap (λ (x : ℕ). moved_by (direction_of (bit_of r.word 23)) x (field r.word 0 12)) (ahead_two at)
    ∙ number_moves (bit_of r.word 23) ((at + 2) % 2 ^ 24 * 4) (field r.word 0 12) r.value small h.value

pub words_beside_load : WordsBesideLoad
unfolding result_of_action result_of_transfer
words_beside_load r h owned s at b inside =
    let t : State = core_at s at in
    let a : Address = address_in (offset.Immediate (field r.word 0 12)) r.word in
    let tr : Transfer = transfer_in (offset.Immediate (field r.word 0 12)) r.word in
    let moved : ℕ = moved_base t a in
    let there : ℕ = ((at + 2) % 2 ^ 24 * 4 + r.value) % 2 ^ 32 in
    let value : value_loaded b tr.is_byte (transfer_address t a) ≡ value_loaded b false there =
    ap (λ (f : Bool). value_loaded b f (transfer_address t a)) h.bytes
    ∙ ap (λ (i : Indexing). value_loaded b false (address_by i (plain_operand t (field r.word 16 4) 2) moved)) h.indexing
    ∙ ap (λ (x : ℕ). value_loaded b false x) (moved_from_pc s at r h) in
    let unmoved : with_base (with_next_pc t) a moved ≡ core_at s (at + 1) =
    ap (λ (i : Indexing). if writes_base i then with_result (with_next_pc t) (field r.word 16 4) moved else with_next_pc t) h.indexing ∙ next_position s at in
    let f : ℕ → Result (State × Bytes) Fault = λ v. Ok (with_result (with_base (with_next_pc t) a moved) (field r.word 12 4) v, b) in
    let g : ℕ → Result (State × Bytes) Fault = λ v. Ok (core_at (with_register s r.rd v) (at + 1), b) in
    let core : (v : ℕ) → f v ≡ g v = λ v. ap (λ (x : State). let o : Result (State × Bytes) Fault = Ok (x, b) in o)
    (ap (λ (x : State). with_result x (field r.word 12 4) v) unmoved ∙ register_set s (at + 1) (field r.word 12 4) r.rd v h.rd h.rd_below) in
    carried owned t b condition.Always (action.Transfer tr) r h.does refl
    ∙ ap (λ (l : Bool). let o : Result (State × Bytes) StepEnd = or_fault (if l then result_of_load t b tr else result_of_store owned t b tr) in o) h.loads
    ∙ ap (λ (x : Result ℕ Fault). let o : Result (State × Bytes) StepEnd = or_fault (bind x f) in o) value
    ∙ ap (λ (x : Result (State × Bytes) Fault). let o : Result (State × Bytes) StepEnd = or_fault x in o) (bound_alike (value_loaded b false there) f g core)
