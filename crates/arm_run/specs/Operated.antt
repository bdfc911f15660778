-- What data processing and MUL leave of the core, but for its position, where neither the first operand nor the destination is R15.
use Rattle.std.specs.Prelude.{ℕ, Bool, true, false, ◌+◌, ◌*◌, ◌%◌, ◌^◌, if◌then◌else◌}
use Rattle.arm_step.specs.Shifted.{Shifted}
use Rattle.arm_core.specs.Sum.{Sum}
use Rattle.arm_core.specs.Refusals.{is_test}
use Rattle.arm_core.specs.Operation.{Operation}
use Rattle.arm_core.specs.Effect.{with_result_flags}
use Rattle.arm_core.specs.Operate.{sum_of_operation}
use Rattle.arm_core.specs.State.{State, register_in, with_register}
use Rattle.arm_predecode.specs.OpValue.{OpValue}

-- a test has no destination
abbrev pub with_destination : Bool → State → ℕ → ℕ → State
with_destination true s rd value = s
with_destination false s rd value = with_register s rd value

abbrev pub with_flags_if : Bool → State → Sum → State
with_flags_if true s r = with_result_flags s r
with_flags_if false s r = s

abbrev pub with_sum : State → Operation → Bool → ℕ → Sum → State
with_sum s op sets rd r = with_flags_if sets (with_destination (is_test op) s rd r.value) r

abbrev pub sum_by : State → Operation → ℕ → Shifted → Sum
sum_by s op rn second = sum_of_operation op (register_in s.psr.mode s rn) second s.psr

-- what MUL computes, or MLA
abbrev pub product_of : Bool → ℕ → ℕ → ℕ → ℕ
product_of adds left right added = if adds then (left * right + added) % 2 ^ 32 else left * right % 2 ^ 32

unfoldable pub state_after_operation : State → Operation → Bool → OpValue → Shifted → State
state_after_operation s op sets r second = with_sum s op sets r.rd (sum_by s op r.rn second)
