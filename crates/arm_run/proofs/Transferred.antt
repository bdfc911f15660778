-- LDR and STR lead on.
use Rattle.std.proofs.Common.{◌≡◌, ◌<◌, ◌+◌, ◌-◌, ◌*◌, ◌%◌, ◌^◌, ℕ, Bool, true, false, nat_eq, Option, Result, Ok, refl, sym, ◌∙◌, ap, subst, arith, if◌then◌else◌}
use Rattle.std.proofs.lemmas.Bool.Decides.{nat_tests}
use Rattle.arm_core.specs.Outcome.{bind}
use Rattle.arm_core.specs.Word.{field, bit_of}
use Rattle.arm_core.specs.Fault.{Fault}
use Rattle.arm_step.specs.Bytes.{Bytes}
use Rattle.arm_core.specs.Fields.{address_in, shifted_in, transfer_in}
use Rattle.arm_core.specs.Names.{direction_of, shift_of}
use Rattle.arm_core.specs.Refusals.{writes_base}
use Rattle.arm_core.specs.Action.TheVariants as action
use Rattle.arm_core.specs.Transfer.{Transfer}
use Rattle.arm_step.specs.Address.{Address}
use Rattle.arm_core.specs.Indexing.{Indexing}
use Rattle.arm_core.specs.Offset.{Offset}
use Rattle.arm_core.specs.Offset.TheVariants as offset
use Rattle.arm_core.specs.Condition.TheVariants as condition
use Rattle.arm_core.specs.Shift.{Shift}
use Rattle.arm_core.specs.Shift.TheVariants as shift
use Rattle.arm_core.specs.Effect.{plain_operand, status_operand, with_result, with_next_pc}
use Rattle.arm_core.specs.Operand.{shifted_by_number}
use Rattle.arm_core.specs.State.{State, register_in, with_register}
use Rattle.arm_core.specs.declared.turn.StepEnd.{StepEnd}
use Rattle.arm_core.specs.declared.turn.StepEnd.TheVariants as turn
use Rattle.arm_step.specs.Step.{or_fault, result_of_action, result_of_step, result_of_word}
use Rattle.arm_step.specs.Transfers.{address_by, moved_base, moved_by, result_of_load, result_of_store, result_of_transfer, transfer_address, value_loaded, value_stored, with_base}
use Rattle.arm_step.specs.Turns.{Turns}
use Rattle.arm_predecode.specs.Kinds.{Transfers, TransfersByNumber, TransfersByRegister}
use Rattle.arm_predecode.specs.OpValue.{OpValue}
use Rattle.arm_run.specs.Moved.{base_moved, address_reached, with_base_if, with_moved_base, IsLoaded, IsStored}
use Rattle.arm_run.specs.Standing.{core_at, IsFetched, Acts}
use Rattle.arm_run.proofs.Carried.{carried, turns_by}
use Rattle.arm_run.proofs.OperandsRead.{first_read, other_below, status_read}
use Rattle.arm_run.proofs.Positions.{next_position}

-- a load by its value
pub is_loaded : (b : Bytes) (s s' : State) (is_byte : Bool) (way : Indexing) (added v : ℕ) (r : OpValue) → value_loaded b is_byte (address_reached way s r added) ≡ Ok v
    → s' ≡ with_register (with_moved_base way s r added) r.rd v → IsLoaded b s is_byte way added r s'
is_loaded b s s' is_byte way added v r there core = record { value = v; there = there; core = core }

-- what is added moves the base as the offset does
abbrev pub Adds : State → Offset → ℕ → OpValue → Type 0
Adds s by added r = (at : ℕ) → moved_base (core_at s at) (address_in by r.word) ≡ base_moved s r added

pub number_moves : (up : Bool) (base n v : ℕ) → n < 2 ^ 12 → v ≡ (if up then n else (2 ^ 32 - n) % 2 ^ 32) → moved_by (direction_of up) base n ≡ (base + v) % 2 ^ 32
number_moves true base n v h e = ap (λ (x : ℕ). (base + x) % 2 ^ 32) (sym e)
number_moves false base n v h e = omega arith

adds_number : (s : State) (loads is_byte : Bool) (way : Indexing) (r : OpValue) → TransfersByNumber loads is_byte way r → Adds s (offset.Immediate (field r.word 0 12)) r.value r
adds_number s loads is_byte way r h at =
    let rn : field r.word 16 4 < 15 = subst (λ (k : ℕ). k < 15) h.transfers.rn h.transfers.rn_below in
    let small : field r.word 0 12 < 2 ^ 12 = omega arith in
    ap (λ (x : ℕ). moved_by (direction_of (bit_of r.word 23)) x (field r.word 0 12)) (first_read s at (field r.word 16 4) 2 rn ∙ ap (λ (k : ℕ). register_in s.psr.mode s k) (sym h.transfers.rn))
    ∙ number_moves (bit_of r.word 23) (register_in s.psr.mode s r.rn) (field r.word 0 12) r.value small h.value

left_by : (x n : ℕ) (c zero : Bool) → x < 2 ^ 32 → nat_eq n 0 ≡ zero → x * 2 ^ n % 2 ^ 32 ≡ (shifted_by_number shift.LogicalLeft x n c).value
left_by x n c true h e =
    let none : n ≡ 0 = grind (arith, nat_tests) in
    let whole : x * 2 ^ 0 % 2 ^ 32 ≡ x = omega arith in
    ap (λ (k : ℕ). x * 2 ^ k % 2 ^ 32) none ∙ whole ∙ sym (ap (λ (k : ℕ). (shifted_by_number shift.LogicalLeft x k c).value) none)
left_by x n c false h e = rw e refl

pub left_shifted : (x n : ℕ) (c : Bool) → x < 2 ^ 32 → x * 2 ^ n % 2 ^ 32 ≡ (shifted_by_number shift.LogicalLeft x n c).value
left_shifted x n c h = left_by x n c (nat_eq n 0) h refl

adds_register : (s : State) (loads is_byte : Bool) (way : Indexing) (r : OpValue) (added : ℕ) → TransfersByRegister loads is_byte way r
    → added ≡ (shifted_by_number shift.LogicalLeft (register_in s.psr.mode s r.rm) r.value s.psr.carry).value → Adds s (offset.Shifted (shifted_in r.word)) added r
adds_register s loads is_byte way r added h e at =
    let rn : field r.word 16 4 < 15 = subst (λ (k : ℕ). k < 15) h.transfers.rn h.transfers.rn_below in
    let rm : field r.word 0 4 < 15 = subst (λ (k : ℕ). k < 15) h.rm h.rm_below in
    let base : ℕ = plain_operand (core_at s at) (field r.word 16 4) 2 in
    ap (λ (u : Bool). moved_by (direction_of u) base (shifted_by_number (shift_of (field r.word 5 2)) (status_operand s.psr.mode (core_at s at) (field r.word 0 4) 2) (field r.word 7 5) s.psr.carry).value) h.up
    ∙ ap (λ (k : Shift). (base + (shifted_by_number k (status_operand s.psr.mode (core_at s at) (field r.word 0 4) 2) (field r.word 7 5) s.psr.carry).value) % 2 ^ 32) h.shift
    ∙ ap (λ (n : ℕ). (base + (shifted_by_number shift.LogicalLeft (status_operand s.psr.mode (core_at s at) (field r.word 0 4) 2) n s.psr.carry).value) % 2 ^ 32) (sym h.amount)
    ∙ ap (λ (x : ℕ). (base + (shifted_by_number shift.LogicalLeft x r.value s.psr.carry).value) % 2 ^ 32) (status_read s at (field r.word 0 4) 2 rm ∙ ap (λ (k : ℕ). register_in s.psr.mode s k) (sym h.rm))
    ∙ ap (λ (x : ℕ). (base + x) % 2 ^ 32) (sym e)
    ∙ ap (λ (x : ℕ). (x + added) % 2 ^ 32) (first_read s at (field r.word 16 4) 2 rn ∙ ap (λ (k : ℕ). register_in s.psr.mode s k) (sym h.transfers.rn))

-- the base, and then the register that is loaded
pub based_by : (s : State) (p rn moved : ℕ) (writes : Bool) → nat_eq rn 15 ≡ false
    → (if writes then with_result (core_at s p) rn moved else core_at s p) ≡ core_at (with_base_if writes s rn moved) p
based_by s p rn moved true e = rw e refl
based_by s p rn moved false e = refl

pub loaded_by : (s : State) (p rd v : ℕ) → nat_eq rd 15 ≡ false → with_result (core_at s p) rd v ≡ core_at (with_register s rd v) p
loaded_by s p rd v e = rw e refl

based : (s : State) (at added : ℕ) (loads is_byte : Bool) (way : Indexing) (by : Offset) (r : OpValue) → Transfers loads is_byte way by r → Adds s by added r
    → with_base (with_next_pc (core_at s at)) (address_in by r.word) (moved_base (core_at s at) (address_in by r.word)) ≡ core_at (with_moved_base way s r added) (at + 1)
based s at added loads is_byte way by r h adds =
    let a : Address = address_in by r.word in
    let rn : field r.word 16 4 < 15 = subst (λ (k : ℕ). k < 15) h.rn h.rn_below in
    ap (λ (t : State). with_base t a (moved_base (core_at s at) a)) (next_position s at)
    ∙ ap (λ (m : ℕ). with_base (core_at s (at + 1)) a m) (adds at)
    ∙ ap (λ (i : Indexing). if writes_base i then with_result (core_at s (at + 1)) (field r.word 16 4) (base_moved s r added) else core_at s (at + 1)) h.indexing
    ∙ based_by s (at + 1) (field r.word 16 4) (base_moved s r added) (writes_base way) (other_below (field r.word 16 4) 15 rn)
    ∙ ap (λ (k : ℕ). core_at (with_base_if (writes_base way) s k (base_moved s r added)) (at + 1)) (sym h.rn)

addressed : (s : State) (at added : ℕ) (loads is_byte : Bool) (way : Indexing) (by : Offset) (r : OpValue) → Transfers loads is_byte way by r → Adds s by added r
    → transfer_address (core_at s at) (address_in by r.word) ≡ address_reached way s r added
addressed s at added loads is_byte way by r h adds =
    let rn : field r.word 16 4 < 15 = subst (λ (k : ℕ). k < 15) h.rn h.rn_below in
    let moved : ℕ = moved_base (core_at s at) (address_in by r.word) in
    ap (λ (i : Indexing). address_by i (plain_operand (core_at s at) (field r.word 16 4) 2) moved) h.indexing
    ∙ ap (λ (x : ℕ). address_by way x moved) (first_read s at (field r.word 16 4) 2 rn ∙ ap (λ (k : ℕ). register_in s.psr.mode s k) (sym h.rn))
    ∙ ap (λ (x : ℕ). address_by way (register_in s.psr.mode s r.rn) x) (adds at)

loads : (owned : ℕ → Bool) (s s' : State) (at added : ℕ) (b : Bytes) (is_byte : Bool) (way : Indexing) (by : Offset) (r : OpValue) → Transfers true is_byte way by r → Adds s by added r
    → IsLoaded b s is_byte way added r s' → result_of_word owned (core_at s at) b r.word ≡ Ok (core_at s' (at + 1), b)
unfolding result_of_action result_of_transfer
loads owned s s' at added b is_byte way by r h adds l =
    let t : State = core_at s at in
    let a : Address = address_in by r.word in
    let tr : Transfer = transfer_in by r.word in
    let rd : field r.word 12 4 < 15 = subst (λ (k : ℕ). k < 15) h.rd h.rd_below in
    let value : value_loaded b tr.is_byte (transfer_address t a) ≡ Ok l.value =
    ap (λ (f : Bool). value_loaded b f (transfer_address t a)) h.bytes ∙ ap (value_loaded b is_byte) (addressed s at added true is_byte way by r h adds) ∙ l.there in
    let core : with_result (with_base (with_next_pc t) a (moved_base t a)) (field r.word 12 4) l.value ≡ core_at s' (at + 1) =
    ap (λ (x : State). with_result x (field r.word 12 4) l.value) (based s at added true is_byte way by r h adds)
    ∙ loaded_by (with_moved_base way s r added) (at + 1) (field r.word 12 4) l.value (other_below (field r.word 12 4) 15 rd)
    ∙ ap (λ (k : ℕ). core_at (with_register (with_moved_base way s r added) k l.value) (at + 1)) (sym h.rd)
    ∙ ap (λ (x : State). core_at x (at + 1)) (sym l.core) in
    carried owned t b condition.Always (action.Transfer tr) r h.does refl
    ∙ ap (λ (f : Bool). let o : Result (State × Bytes) StepEnd = or_fault (if f then result_of_load t b tr else result_of_store owned t b tr) in o) h.loads
    ∙ ap (λ (x : Result ℕ Fault). let o : Result (State × Bytes) StepEnd = or_fault (bind x (λ v. let w : Result (State × Bytes) Fault = Ok (with_result (with_base (with_next_pc t) a (moved_base t a)) (field r.word 12 4) v, b) in w)) in o) value
    ∙ ap (λ (x : State). let o : Result (State × Bytes) StepEnd = Ok (x, b) in o) core

stores : (owned : ℕ → Bool) (s s' : State) (at added : ℕ) (b b' : Bytes) (is_byte : Bool) (way : Indexing) (by : Offset) (r : OpValue) → Transfers false is_byte way by r → Adds s by added r
    → IsStored owned b s is_byte way added r s' b' → result_of_word owned (core_at s at) b r.word ≡ Ok (core_at s' (at + 1), b')
unfolding result_of_action result_of_transfer
stores owned s s' at added b b' is_byte way by r h adds l =
    let t : State = core_at s at in
    let a : Address = address_in by r.word in
    let tr : Transfer = transfer_in by r.word in
    let rd : field r.word 12 4 < 15 = subst (λ (k : ℕ). k < 15) h.rd h.rd_below in
    let bytes : value_stored owned b tr.is_byte (transfer_address t a) (status_operand s.psr.mode t (field r.word 12 4) 3) ≡ Ok b' =
    ap (λ (f : Bool). value_stored owned b f (transfer_address t a) (status_operand s.psr.mode t (field r.word 12 4) 3)) h.bytes
    ∙ ap (λ (x : ℕ). value_stored owned b is_byte x (status_operand s.psr.mode t (field r.word 12 4) 3)) (addressed s at added false is_byte way by r h adds)
    ∙ ap (λ (x : ℕ). value_stored owned b is_byte (address_reached way s r added) x) (status_read s at (field r.word 12 4) 3 rd ∙ ap (λ (k : ℕ). register_in s.psr.mode s k) (sym h.rd))
    ∙ l.bytes in
    let core : with_base (with_next_pc t) a (moved_base t a) ≡ core_at s' (at + 1) =
    based s at added false is_byte way by r h adds ∙ ap (λ (x : State). core_at x (at + 1)) (sym l.core) in
    carried owned t b condition.Always (action.Transfer tr) r h.does refl
    ∙ ap (λ (f : Bool). let o : Result (State × Bytes) StepEnd = or_fault (if f then result_of_load t b tr else result_of_store owned t b tr) in o) h.loads
    ∙ ap (λ (x : Result Bytes Fault). let o : Result (State × Bytes) StepEnd = or_fault (bind x (λ c. let w : Result (State × Bytes) Fault = Ok (with_base (with_next_pc t) a (moved_base t a), c) in w)) in o) bytes
    ∙ ap (λ (x : State). let o : Result (State × Bytes) StepEnd = Ok (x, b') in o) core

pub loads_by_number : (owned : ℕ → Bool) (s s' : State) (at : ℕ) (b : Bytes) (is_byte : Bool) (way : Indexing) (r : OpValue) → TransfersByNumber true is_byte way r → IsFetched b at r.word
    → IsLoaded b s is_byte way r.value r s' → Turns (core_at s at, b) (result_of_step owned (core_at s at) b) turn.Done (core_at s' (at + 1), b)
loads_by_number owned s s' at b is_byte way r h fetched l =
    turns_by _ (core_at s at, b) (core_at s' (at + 1), b)
    (fetched owned s ∙ loads owned s s' at r.value b is_byte way (offset.Immediate (field r.word 0 12)) r h.transfers (adds_number s true is_byte way r h) l)

pub stores_by_number : (owned : ℕ → Bool) (s s' : State) (at : ℕ) (b b' : Bytes) (is_byte : Bool) (way : Indexing) (r : OpValue) → TransfersByNumber false is_byte way r → IsFetched b at r.word
    → IsStored owned b s is_byte way r.value r s' b' → Turns (core_at s at, b) (result_of_step owned (core_at s at) b) turn.Done (core_at s' (at + 1), b')
stores_by_number owned s s' at b b' is_byte way r h fetched l =
    turns_by _ (core_at s at, b) (core_at s' (at + 1), b')
    (fetched owned s ∙ stores owned s s' at r.value b b' is_byte way (offset.Immediate (field r.word 0 12)) r h.transfers (adds_number s false is_byte way r h) l)

pub loads_by_register : (owned : ℕ → Bool) (s s' : State) (at added : ℕ) (b : Bytes) (is_byte : Bool) (way : Indexing) (r : OpValue) → TransfersByRegister true is_byte way r → IsFetched b at r.word
    → added ≡ (shifted_by_number shift.LogicalLeft (register_in s.psr.mode s r.rm) r.value s.psr.carry).value
    → IsLoaded b s is_byte way added r s' → Turns (core_at s at, b) (result_of_step owned (core_at s at) b) turn.Done (core_at s' (at + 1), b)
loads_by_register owned s s' at added b is_byte way r h fetched e l =
    turns_by _ (core_at s at, b) (core_at s' (at + 1), b)
    (fetched owned s ∙ loads owned s s' at added b is_byte way (offset.Shifted (shifted_in r.word)) r h.transfers (adds_register s true is_byte way r added h e) l)

pub stores_by_register : (owned : ℕ → Bool) (s s' : State) (at added : ℕ) (b b' : Bytes) (is_byte : Bool) (way : Indexing) (r : OpValue) → TransfersByRegister false is_byte way r → IsFetched b at r.word
    → added ≡ (shifted_by_number shift.LogicalLeft (register_in s.psr.mode s r.rm) r.value s.psr.carry).value
    → IsStored owned b s is_byte way added r s' b' → Turns (core_at s at, b) (result_of_step owned (core_at s at) b) turn.Done (core_at s' (at + 1), b')
stores_by_register owned s s' at added b b' is_byte way r h fetched e l =
    turns_by _ (core_at s at, b) (core_at s' (at + 1), b')
    (fetched owned s ∙ stores owned s s' at added b b' is_byte way (offset.Shifted (shifted_in r.word)) r h.transfers (adds_register s false is_byte way r added h e) l)

-- a step from where nothing has changed
pub acts_from : (owned owned' : ℕ → Bool) (s t s' : State) (at : ℕ) (b c b' : Bytes) (next : Option ℕ) → owned' ≡ owned → t ≡ s → c ≡ b → Acts owned' t at c next s' b' → Acts owned s at b next s' b'
acts_from owned owned' s t s' at b c b' next e f g h =
    subst (λ (x : Bytes). Acts owned s at x next s' b') g (subst (λ (x : State). Acts owned x at c next s' b') f (subst (λ (o : ℕ → Bool). Acts o t at c next s' b') e h))
