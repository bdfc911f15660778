-- MOV to R15 leads there.
use Rattle.std.proofs.Common.{◌≡◌, ◌+◌, ◌*◌, ◌/◌, ◌%◌, ◌^◌, ℕ, Bool, true, false, Result, Ok, refl, sym, ◌∙◌, ap, subst, arith, if◌then◌else◌}
use Rattle.arm_step.specs.Shifted.{Shifted}
use Rattle.arm_core.specs.Sum.{Sum}
use Rattle.arm_step.specs.Bytes.{Bytes}
use Rattle.arm_core.specs.Fields.{shifted_in, operate_in}
use Rattle.arm_core.specs.Refusals.{is_test}
use Rattle.arm_core.specs.Action.TheVariants as action
use Rattle.arm_core.specs.ArmDecodeOperate.{Operate}
use Rattle.arm_core.specs.Condition.TheVariants as condition
use Rattle.arm_core.specs.ArmDecodeOperand.{Operand}
use Rattle.arm_core.specs.ArmDecodeOperand.TheVariants as operand
use Rattle.arm_core.specs.Operation.{Operation}
use Rattle.arm_core.specs.Effect.{plain_operand, with_status}
use Rattle.arm_core.specs.Operand.{operand_of, words_ahead}
use Rattle.arm_core.specs.Operate.{sum_of_operation, state_after_result, state_after_operate}
use Rattle.arm_core.specs.State.{State, register_in, with_pc}
use Rattle.arm_core.specs.declared.turn.StepEnd.{StepEnd}
use Rattle.arm_step.specs.Step.{result_of_action}
use Rattle.arm_predecode.specs.Kinds.{MovesToPc}
use Rattle.arm_predecode.specs.OpValue.{OpValue}
use Rattle.arm_run.specs.Standing.{core_at, LeadsTo}
use Rattle.arm_run.proofs.Carried.{carried}
use Rattle.arm_run.proofs.OperandsRead.{whole_read}
use Rattle.arm_run.proofs.Positions.{next_position, with_counter}

-- the counter, and with S the status, from a value
abbrev jumped : State → Bool → ℕ → State
jumped t f v = if f then with_status (with_pc t v) v else with_pc t v

abbrev with_status_if : Bool → State → ℕ → State
with_status_if f s v = if f then with_status s v else s

jumps_by : (t : State) (o : Operate) (q : Sum) (f : Bool) → is_test o.operation ≡ false → o.rd ≡ 15 → o.sets_flags ≡ f → state_after_result t o q ≡ jumped t f q.value
jumps_by t o q true test pc flags = rw (test, flags, pc) refl
jumps_by t o q false test pc flags = rw (test, flags, pc) refl

lands : (v next : ℕ) → next ≡ v / 4 % 2 ^ 24 → v / 4 % 2 ^ 24 * 4 ≡ next % 2 ^ 24 * 4
lands v next e = omega arith

jumped_to : (s : State) (p v next : ℕ) (f : Bool) → next ≡ v / 4 % 2 ^ 24 → jumped (core_at s p) f v ≡ core_at (with_status_if f s v) next
jumped_to s p v next true e = with_counter (with_status s v) _ _ (lands v next e)
jumped_to s p v next false e = with_counter s _ _ (lands v next e)

jumps : (s : State) (at v next : ℕ) (f : Bool) (r : OpValue) → MovesToPc f r → v ≡ register_in s.psr.mode s r.rm → next ≡ v / 4 % 2 ^ 24
    → state_after_operate (core_at s at) (operate_in (operand.Shifted (shifted_in r.word)) r.word) ≡ core_at (with_status_if f s v) next
unfolding state_after_operate
jumps s at v next f r h from there =
    let t : State = core_at s at in
    let x : Operand = operand.Shifted (shifted_in r.word) in
    let o : Operate = operate_in x r.word in
    let first : ℕ = plain_operand t o.rn (words_ahead x) in
    let sum : Sum = sum_of_operation o.operation first (operand_of t x) s.psr in
    let value : sum.value ≡ v =
    ap (λ (k : Operation). (sum_of_operation k first (operand_of t x) s.psr).value) h.operation
    ∙ ap (λ (y : Shifted). y.value) (whole_read s at r v h.rm h.rm_below h.amount h.shift from) in
    ap (λ (u : State). state_after_result u o sum) (next_position s at)
    ∙ jumps_by (core_at s (at + 1)) o sum f (ap is_test h.operation) h.rd h.flags
    ∙ ap (λ (k : ℕ). jumped (core_at s (at + 1)) f k) value
    ∙ jumped_to s (at + 1) v next f there

leads : (s : State) (at v next : ℕ) (f : Bool) (r : OpValue) → MovesToPc f r → v ≡ register_in s.psr.mode s r.rm → next ≡ v / 4 % 2 ^ 24 → LeadsTo s at r.word (with_status_if f s v) next
unfolding result_of_action
leads s at v next f r h from there owned b =
    carried owned (core_at s at) b condition.Always (action.Operate (operate_in (operand.Shifted (shifted_in r.word)) r.word)) r h.does refl
    ∙ ap (λ (t : State). let o : Result (State × Bytes) StepEnd = Ok (t, b) in o) (jumps s at v next f r h from there)

pub moves_to : (s : State) (at v next : ℕ) (r : OpValue) → MovesToPc false r → v ≡ register_in s.psr.mode s r.rm → next ≡ v / 4 % 2 ^ 24 → LeadsTo s at r.word s next
moves_to s at v next r h from there = leads s at v next false r h from there

pub moves_with_status : (s s' : State) (at v next : ℕ) (r : OpValue) → MovesToPc true r → v ≡ register_in s.psr.mode s r.rm → s' ≡ with_status s v → next ≡ v / 4 % 2 ^ 24
    → LeadsTo s at r.word s' next
moves_with_status s s' at v next r h from set there = subst (λ (x : State). LeadsTo s at r.word x next) (sym set) (leads s at v next true r h from there)
