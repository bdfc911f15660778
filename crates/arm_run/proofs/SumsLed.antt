-- Data processing leads on.
use Rattle.std.proofs.Common.{◌≡◌, ◌<◌, ◌+◌, ℕ, Bool, true, false, not, ◌&&◌, nat_eq, Result, Ok, refl, sym, ◌∙◌, ap, subst}
use Rattle.arm_core.specs.Word.{field}
use Rattle.arm_step.specs.Shifted.{Shifted}
use Rattle.arm_core.specs.Sum.{Sum}
use Rattle.arm_step.specs.Bytes.{Bytes}
use Rattle.arm_core.specs.Fields.{immediate_in, shifted_in, operate_in}
use Rattle.arm_core.specs.Refusals.{is_test}
use Rattle.arm_core.specs.Action.TheVariants as action
use Rattle.arm_core.specs.ArmDecodeOperate.{Operate}
use Rattle.arm_core.specs.Condition.TheVariants as condition
use Rattle.arm_core.specs.ArmDecodeOperand.{Operand}
use Rattle.arm_core.specs.ArmDecodeOperand.TheVariants as operand
use Rattle.arm_core.specs.Operation.{Operation}
use Rattle.arm_core.specs.Effect.{plain_operand}
use Rattle.arm_core.specs.Operand.{operand_of, words_ahead, rotated_immediate, unshifted_value, shifted_value}
use Rattle.arm_core.specs.Operate.{sum_of_operation, state_after_result, state_after_operate}
use Rattle.arm_core.specs.State.{State, register_in}
use Rattle.arm_core.specs.declared.turn.StepEnd.{StepEnd}
use Rattle.arm_step.specs.Step.{result_of_action}
use Rattle.arm_predecode.specs.Kinds.{OperatesPlainly, OperatesByImmediate, OperatesByRegister, OperatesByShift}
use Rattle.arm_predecode.specs.OpValue.{OpValue}
use Rattle.arm_run.specs.Operated.{with_destination, with_flags_if, with_sum, sum_by, state_after_operation}
use Rattle.arm_run.specs.Standing.{core_at, LeadsOn}
use Rattle.arm_run.proofs.Carried.{carried}
use Rattle.arm_run.proofs.OperandsRead.{first_read, other_below, register_read, shift_read}
use Rattle.arm_run.proofs.Positions.{next_position}

-- by whether it is a test, and sets flags
stands_by : (s : State) (p : ℕ) (o : Operate) (q : Sum) (t f : Bool) → nat_eq o.rd 15 ≡ false → is_test o.operation ≡ t → o.sets_flags ≡ f → (t && not f) ≡ false
    → state_after_result (core_at s p) o q ≡ core_at (with_flags_if f (with_destination t s o.rd q.value) q) p
stands_by s p o q true true pc test flags places = rw (test, pc) refl
stands_by s p o q true false pc test flags places = absurd (cc)
stands_by s p o q false true pc test flags places = rw (test, flags, pc) refl
stands_by s p o q false false pc test flags places = rw (test, flags, pc) refl

operates_at : (s : State) (at : ℕ) (op : Operation) (sets : Bool) (second : Shifted) (x : Operand) (r : OpValue) → OperatesPlainly op sets x r → operand_of (core_at s at) x ≡ second
    → state_after_operate (core_at s at) (operate_in x r.word) ≡ core_at (state_after_operation s op sets r second) (at + 1)
unfolding state_after_operate state_after_operation
operates_at s at op sets second x r h read =
    let o : Operate = operate_in x r.word in
    let rn : o.rn < 15 = subst (λ (k : ℕ). k < 15) h.rn h.rn_below in
    let rd : o.rd < 15 = subst (λ (k : ℕ). k < 15) h.rd h.rd_below in
    let sum : Sum = sum_of_operation o.operation (plain_operand (core_at s at) o.rn (words_ahead x)) (operand_of (core_at s at) x) s.psr in
    let same : sum ≡ sum_by s op r.rn second =
    ap (λ (k : ℕ). sum_of_operation o.operation k (operand_of (core_at s at) x) s.psr) (first_read s at o.rn (words_ahead x) rn ∙ ap (λ (k : ℕ). register_in s.psr.mode s k) (sym h.rn))
    ∙ ap (λ (y : Shifted). sum_of_operation o.operation (register_in s.psr.mode s r.rn) y s.psr) read
    ∙ ap (λ (p : Operation). sum_of_operation p (register_in s.psr.mode s r.rn) second s.psr) h.operation in
    ap (λ (t : State). state_after_result t o sum) (next_position s at)
    ∙ stands_by s (at + 1) o sum (is_test op) sets (other_below o.rd 15 rd) (ap is_test h.operation) h.flags h.places
    ∙ ap (λ (k : ℕ). core_at (with_flags_if sets (with_destination (is_test op) s k sum.value) sum) (at + 1)) (sym h.rd)
    ∙ ap (λ (q : Sum). core_at (with_sum s op sets r.rd q) (at + 1)) same

leads : (s : State) (op : Operation) (sets : Bool) (second : Shifted) (x : Operand) (r : OpValue) → OperatesPlainly op sets x r → ((at : ℕ) → operand_of (core_at s at) x ≡ second)
    → LeadsOn s r.word (state_after_operation s op sets r second)
unfolding result_of_action
leads s op sets second x r h read at owned b =
    carried owned (core_at s at) b condition.Always (action.Operate (operate_in x r.word)) r h.does refl
    ∙ ap (λ (t : State). let o : Result (State × Bytes) StepEnd = Ok (t, b) in o) (operates_at s at op sets second x r h (read at))

pub immediate_leads : (s s' : State) (op : Operation) (sets : Bool) (second : Shifted) (r : OpValue) → OperatesByImmediate op sets r
    → second ≡ rotated_immediate (field r.word 8 4) (field r.word 0 8) s.psr.carry → s' ≡ state_after_operation s op sets r second → LeadsOn s r.word s'
immediate_leads s s' op sets second r h is done =
    subst (λ (t : State). LeadsOn s r.word t) (sym done) (leads s op sets second (immediate_in r.word) r h.operates (λ at. sym is))

pub register_leads : (s s' : State) (op : Operation) (sets : Bool) (x : ℕ) (second : Shifted) (r : OpValue) → OperatesByRegister op sets r
    → x ≡ register_in s.psr.mode s r.rm → second ≡ unshifted_value x s.psr.carry → s' ≡ state_after_operation s op sets r second → LeadsOn s r.word s'
register_leads s s' op sets x second r h from is done =
    subst (λ (t : State). LeadsOn s r.word t) (sym done)
    (leads s op sets second (operand.Shifted (shifted_in r.word)) r h.operates (λ at. register_read s at op sets r x h from ∙ sym is))

pub shift_leads : (s s' : State) (op : Operation) (sets : Bool) (x : ℕ) (second : Shifted) (r : OpValue) → OperatesByShift op sets r
    → x ≡ register_in s.psr.mode s r.rm → second ≡ shifted_value r.shift x r.value → s' ≡ state_after_operation s op sets r second → LeadsOn s r.word s'
shift_leads s s' op sets x second r h from is done =
    subst (λ (t : State). LeadsOn s r.word t) (sym done)
    (leads s op sets second (operand.Shifted (shifted_in r.word)) r h.operates (λ at. shift_read s at op sets r x h from ∙ sym is))

pub no_flags_no_test : (t f : Bool) → (t && not f) ≡ false → f ≡ false → t ≡ false
no_flags_no_test true f h e = cc
no_flags_no_test false f h e = refl
