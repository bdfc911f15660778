-- LDR from beside R15 leads on.
use Rattle.std.proofs.Common.{◌≡◌, ◌<◌, ◌+◌, ◌*◌, ◌%◌, ◌^◌, ℕ, Bool, false, Result, Ok, refl, sym, ◌∙◌, ap, subst, arith, if◌then◌else◌}
use Rattle.arm_core.specs.Outcome.{bind}
use Rattle.arm_core.specs.Word.{field, bit_of}
use Rattle.arm_core.specs.Fault.{Fault}
use Rattle.arm_step.specs.Bytes.{Bytes}
use Rattle.arm_core.specs.Fields.{address_in, transfer_in}
use Rattle.arm_core.specs.Names.{direction_of}
use Rattle.arm_core.specs.Refusals.{writes_base}
use Rattle.arm_core.specs.Action.TheVariants as action
use Rattle.arm_core.specs.Transfer.{Transfer}
use Rattle.arm_step.specs.Address.{Address}
use Rattle.arm_core.specs.Indexing.{Indexing}
use Rattle.arm_core.specs.Offset.TheVariants as offset
use Rattle.arm_core.specs.Condition.TheVariants as condition
use Rattle.arm_core.specs.Effect.{plain_operand, with_next_pc, with_result}
use Rattle.arm_core.specs.State.{State, with_register}
use Rattle.arm_core.specs.declared.turn.StepEnd.{StepEnd}
use Rattle.arm_core.specs.declared.turn.StepEnd.TheVariants as turn
use Rattle.arm_step.specs.Step.{or_fault, result_of_action, result_of_step, result_of_word}
use Rattle.arm_step.specs.Transfers.{address_by, moved_base, moved_by, result_of_load, result_of_store, result_of_transfer, transfer_address, value_loaded, with_base}
use Rattle.arm_step.specs.Turns.{Turns}
use Rattle.arm_predecode.specs.Kinds.{LoadsBeside}
use Rattle.arm_predecode.specs.OpValue.{OpValue}
use Rattle.arm_run.specs.Standing.{core_at, IsFetched}
use Rattle.arm_run.proofs.Carried.{carried, turns_by}
use Rattle.arm_run.proofs.OperandsRead.{other_below}
use Rattle.arm_run.proofs.Positions.{next_position}
use Rattle.arm_run.proofs.Transferred.{loaded_by, number_moves}

two_ahead : (at next : ℕ) → next ≡ (at + 2) % 2 ^ 24 → (at % 2 ^ 24 * 4 + 4 * 2) % 2 ^ 26 ≡ next * 4
two_ahead at next e = omega arith

moved_beside : (s : State) (at next : ℕ) (r : OpValue) → LoadsBeside r → next ≡ (at + 2) % 2 ^ 24
    → moved_base (core_at s at) (address_in (offset.Immediate (field r.word 0 12)) r.word) ≡ (next * 4 + r.value) % 2 ^ 32
moved_beside s at next r h e =
    let small : field r.word 0 12 < 2 ^ 12 = omega arith in
    ap (λ (k : ℕ). moved_by (direction_of (bit_of r.word 23)) (plain_operand (core_at s at) k 2) (field r.word 0 12)) h.base
    ∙ ap (λ (x : ℕ). moved_by (direction_of (bit_of r.word 23)) x (field r.word 0 12)) (two_ahead at next e)
    ∙ number_moves (bit_of r.word 23) (next * 4) (field r.word 0 12) r.value small h.value

unbased : (s : State) (at moved : ℕ) (r : OpValue) → LoadsBeside r
    → with_base (with_next_pc (core_at s at)) (address_in (offset.Immediate (field r.word 0 12)) r.word) moved ≡ core_at s (at + 1)
unbased s at moved r h =
    ap (λ (i : Indexing). if writes_base i then with_result (with_next_pc (core_at s at)) (field r.word 16 4) moved else with_next_pc (core_at s at)) h.indexing
    ∙ next_position s at

loads : (owned : ℕ → Bool) (s s' : State) (at next value : ℕ) (b : Bytes) (r : OpValue) → LoadsBeside r → next ≡ (at + 2) % 2 ^ 24
    → value_loaded b false ((next * 4 + r.value) % 2 ^ 32) ≡ Ok value → s' ≡ with_register s r.rd value → result_of_word owned (core_at s at) b r.word ≡ Ok (core_at s' (at + 1), b)
unfolding result_of_action result_of_transfer
loads owned s s' at next value b r h e there set =
    let t : State = core_at s at in
    let a : Address = address_in (offset.Immediate (field r.word 0 12)) r.word in
    let tr : Transfer = transfer_in (offset.Immediate (field r.word 0 12)) r.word in
    let moved : ℕ = moved_base t a in
    let rd : field r.word 12 4 < 15 = subst (λ (k : ℕ). k < 15) h.rd h.rd_below in
    let loaded : value_loaded b tr.is_byte (transfer_address t a) ≡ Ok value =
    ap (λ (f : Bool). value_loaded b f (transfer_address t a)) h.bytes
    ∙ ap (λ (i : Indexing). value_loaded b false (address_by i (plain_operand t (field r.word 16 4) 2) moved)) h.indexing
    ∙ ap (λ (x : ℕ). value_loaded b false x) (moved_beside s at next r h e) ∙ there in
    let core : with_result (with_base (with_next_pc t) a moved) (field r.word 12 4) value ≡ core_at s' (at + 1) =
    ap (λ (x : State). with_result x (field r.word 12 4) value) (unbased s at moved r h)
    ∙ loaded_by s (at + 1) (field r.word 12 4) value (other_below (field r.word 12 4) 15 rd)
    ∙ ap (λ (k : ℕ). core_at (with_register s k value) (at + 1)) (sym h.rd)
    ∙ ap (λ (x : State). core_at x (at + 1)) (sym set) in
    carried owned t b condition.Always (action.Transfer tr) r h.does refl
    ∙ ap (λ (f : Bool). let o : Result (State × Bytes) StepEnd = or_fault (if f then result_of_load t b tr else result_of_store owned t b tr) in o) h.loads
    ∙ ap (λ (x : Result ℕ Fault). let o : Result (State × Bytes) StepEnd = or_fault (bind x (λ v. let w : Result (State × Bytes) Fault = Ok (with_result (with_base (with_next_pc t) a moved) (field r.word 12 4) v, b) in w)) in o) loaded
    ∙ ap (λ (x : State). let o : Result (State × Bytes) StepEnd = Ok (x, b) in o) core

pub loads_beside : (owned : ℕ → Bool) (s s' : State) (at next value : ℕ) (b : Bytes) (r : OpValue) → LoadsBeside r → IsFetched b at r.word → next ≡ (at + 2) % 2 ^ 24
    → value_loaded b false ((next * 4 + r.value) % 2 ^ 32) ≡ Ok value → s' ≡ with_register s r.rd value
    → Turns (core_at s at, b) (result_of_step owned (core_at s at) b) turn.Done (core_at s' (at + 1), b)
loads_beside owned s s' at next value b r h fetched e there set =
    turns_by _ (core_at s at, b) (core_at s' (at + 1), b) (fetched owned s ∙ loads owned s s' at next value b r h e there set)
