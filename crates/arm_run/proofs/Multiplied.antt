-- MUL and MLA lead on.
use Rattle.std.proofs.Common.{◌≡◌, ◌<◌, ◌+◌, ◌%◌, ◌^◌, ℕ, Bool, Result, Ok, refl, sym, ◌∙◌, ap, subst, arith, if◌then◌else◌}
use Rattle.arm_core.specs.Word.{field}
use Rattle.arm_step.specs.Bytes.{Bytes}
use Rattle.arm_core.specs.Fields.{multiply_in}
use Rattle.arm_core.specs.Action.TheVariants as action
use Rattle.arm_core.specs.Multiply.{Multiply}
use Rattle.arm_core.specs.Condition.TheVariants as condition
use Rattle.arm_core.specs.Effect.{plain_operand, with_next_pc, with_result}
use Rattle.arm_core.specs.Operate.{product, state_after_multiply, with_sign}
use Rattle.arm_core.specs.State.{State, register_in, with_register}
use Rattle.arm_core.specs.declared.turn.StepEnd.{StepEnd}
use Rattle.arm_step.specs.Step.{result_of_action}
use Rattle.arm_predecode.specs.Kinds.{MultipliesPlainly}
use Rattle.arm_predecode.specs.OpValue.{OpValue}
use Rattle.arm_run.specs.Operated.{product_of}
use Rattle.arm_run.specs.Standing.{core_at, LeadsOn}
use Rattle.arm_run.proofs.Carried.{carried}
use Rattle.arm_run.proofs.OperandsRead.{first_read, other_below}
use Rattle.arm_run.proofs.Positions.{next_position}
use Rattle.arm_run.proofs.Transferred.{loaded_by}

pub then_added : (x a : ℕ) → (x % 2 ^ 32 + a) % 2 ^ 32 ≡ (x + a) % 2 ^ 32
then_added x a = omega arith

factor : (s : State) (at n k : ℕ) → k ≡ n → k < 15 → plain_operand (core_at s at) n 2 ≡ register_in s.psr.mode s k
factor s at n k e below = first_read s at n 2 (subst (λ (x : ℕ). x < 15) e below) ∙ ap (λ (x : ℕ). register_in s.psr.mode s x) (sym e)

product_is : (s : State) (at : ℕ) (adds : Bool) (r : OpValue) → MultipliesPlainly adds r
    → product (core_at s at) (multiply_in r.word) ≡ product_of adds (register_in s.psr.mode s r.rm) (register_in s.psr.mode s r.rs) (register_in s.psr.mode s r.rd)
product_is s at adds r h =
    let t : State = core_at s at in
    let x : ℕ = plain_operand t (field r.word 0 4) 2 in
    let y : ℕ = plain_operand t (field r.word 8 4) 2 in
    let z : ℕ = plain_operand t (field r.word 12 4) 2 in
    ap (λ (a : Bool). product_of a x y z) h.accumulates
    ∙ ap (λ (v : ℕ). product_of adds v y z) (factor s at (field r.word 0 4) r.rm h.rm h.rm_below)
    ∙ ap (λ (v : ℕ). product_of adds (register_in s.psr.mode s r.rm) v z) (factor s at (field r.word 8 4) r.rs h.rs h.rs_below)
    ∙ ap (λ (v : ℕ). product_of adds (register_in s.psr.mode s r.rm) (register_in s.psr.mode s r.rs) v) (factor s at (field r.word 12 4) r.rd h.rd h.rd_below)

multiplied : (s : State) (at : ℕ) (adds : Bool) (value : ℕ) (r : OpValue) → MultipliesPlainly adds r → product (core_at s at) (multiply_in r.word) ≡ value
    → state_after_multiply (core_at s at) (multiply_in r.word) ≡ core_at (with_register s r.rn value) (at + 1)
multiplied s at adds value r h is =
    let t : State = core_at s at in
    let m : Multiply = multiply_in r.word in
    let rd : field r.word 16 4 < 15 = subst (λ (k : ℕ). k < 15) h.rn h.rn_below in
    ap (λ (f : Bool). if f then with_sign (with_result (with_next_pc t) m.rd (product t m)) (product t m) else with_result (with_next_pc t) m.rd (product t m)) h.flags
    ∙ ap (λ (v : ℕ). with_result (with_next_pc t) m.rd v) is
    ∙ ap (λ (x : State). with_result x m.rd value) (next_position s at)
    ∙ loaded_by s (at + 1) m.rd value (other_below m.rd 15 rd)
    ∙ ap (λ (k : ℕ). core_at (with_register s k value) (at + 1)) (sym h.rn)

pub product_leads : (s s' : State) (adds : Bool) (value : ℕ) (r : OpValue) → MultipliesPlainly adds r
    → value ≡ product_of adds (register_in s.psr.mode s r.rm) (register_in s.psr.mode s r.rs) (register_in s.psr.mode s r.rd) → s' ≡ with_register s r.rn value → LeadsOn s r.word s'
unfolding result_of_action
product_leads s s' adds value r h is set at owned b =
    carried owned (core_at s at) b condition.Always (action.Multiply (multiply_in r.word)) r h.does refl
    ∙ ap (λ (t : State). let o : Result (State × Bytes) StepEnd = Ok (t, b) in o)
    (multiplied s at adds value r h (product_is s at adds r h ∙ sym is) ∙ ap (λ (x : State). core_at x (at + 1)) (sym set))
