-- Data processing, multiplication and branches (ARM2 data sheet, "Data processing", "Multiply and multiply-accumulate", "Branch").
use Rattle.std.specs.Prelude.{ℕ, Bool, true, false, ◌+◌, ◌*◌, ◌%◌, ◌^◌, ◌==◌, if◌then◌else◌, bit_and, bit_or, bit_xor}
use Rattle.std.specs.Int.{bit_not, w32}
use Rattle.arm_decode.specs.Sums.{sum_of, difference_of}
use Rattle.arm_decode.specs.declared.shifted.Shifted.{Shifted}
use Rattle.arm_decode.specs.Sum.{Sum}
use Rattle.arm_decode.specs.Refusals.{is_test}
use Rattle.arm_decode.specs.declared.action.Operate.{Operate}
use Rattle.arm_decode.specs.declared.action.Multiply.{Multiply}
use Rattle.arm_decode.specs.declared.operation.Operation.{Operation}
use Rattle.arm_decode.specs.declared.operation.Operation.TheVariants as operation
use Rattle.arm_core.specs.declared.psr.Psr.{Psr}
use Rattle.arm_core.specs.Psr.{psr_bits}
use Rattle.arm_core.specs.State.{State, with_register, with_pc}
use Rattle.arm_core.specs.Effect.{ahead, with_next_pc, plain_operand, with_result, with_status, with_result_flags}
use Rattle.arm_core.specs.Operand.{operand_of, words_ahead}

-- a logical result takes C from the shifter and keeps V
abbrev pub logical : ℕ → Shifted → Psr → Sum
logical x second p = record { value = x; carry = second.carry; overflow = p.overflow }

abbrev pub sum_of_operation : Operation → ℕ → Shifted → Psr → Sum
sum_of_operation operation.And x y p = logical (bit_and x y.value) y p
sum_of_operation operation.ExclusiveOr x y p = logical (bit_xor x y.value) y p
sum_of_operation operation.Subtract x y p = difference_of x y.value true
sum_of_operation operation.ReverseSubtract x y p = difference_of y.value x true
sum_of_operation operation.Add x y p = sum_of x y.value false
sum_of_operation operation.AddWithCarry x y p = sum_of x y.value p.carry
sum_of_operation operation.SubtractWithCarry x y p = difference_of x y.value p.carry
sum_of_operation operation.ReverseSubtractWithCarry x y p = difference_of y.value x p.carry
sum_of_operation operation.Test x y p = logical (bit_and x y.value) y p
sum_of_operation operation.TestEquivalence x y p = logical (bit_xor x y.value) y p
sum_of_operation operation.Compare x y p = difference_of x y.value true
sum_of_operation operation.CompareNegated x y p = sum_of x y.value false
sum_of_operation operation.Or x y p = logical (bit_or x y.value) y p
sum_of_operation operation.Move x y p = logical y.value y p
sum_of_operation operation.BitClear x y p = logical (bit_and x (bit_not w32 y.value)) y p
sum_of_operation operation.MoveNot x y p = logical (bit_not w32 y.value) y p

-- A test sets the flags, or in its form P the status from its result.
abbrev pub state_after_test : State → Operate → Sum → State
state_after_test s o r = if o.rd == 15 then with_status s r.value else with_result_flags s r

-- With S a result for R15 sets program counter and status, any other result the flags.
abbrev pub state_with_result : State → Operate → Sum → State
state_with_result s o r =
    if o.sets_flags then (if o.rd == 15 then with_status (with_pc s r.value) r.value
    else with_result_flags (with_register s o.rd r.value) r) else
    with_result s o.rd r.value

abbrev pub state_after_result : State → Operate → Sum → State
state_after_result s o r = if is_test o.operation then state_after_test s o r else state_with_result s o r

unfoldable pub state_after_operate : State → Operate → State
state_after_operate s o = state_after_result (with_next_pc s) o
    (sum_of_operation o.operation (plain_operand s o.rn (words_ahead o.operand))
    (operand_of s o.operand) s.psr)

-- Rd = Rm times Rs, plus Rn for MLA, modulo 2^32. With S the flags N and Z are those of the result, C and V stay.
abbrev pub product : State → Multiply → ℕ
product s m =
    if m.accumulates then (plain_operand s m.rm 2 * plain_operand s m.rs 2 + plain_operand s m.rn 2) % 2 ^ 32
    else
    plain_operand s m.rm 2 * plain_operand s m.rs 2 % 2 ^ 32

abbrev pub with_sign : State → ℕ → State
with_sign s v = with_result_flags s (record { value = v; carry = s.psr.carry; overflow = s.psr.overflow })

abbrev pub state_after_multiply : State → Multiply → State
state_after_multiply s m =
    if m.sets_flags then with_sign (with_result (with_next_pc s) m.rd (product s m)) (product s m) else
    with_result (with_next_pc s) m.rd (product s m)

-- The distance counts words from 8 bytes ahead. Modulo 2^26 four times a signed field of 24 bits is four times the unsigned one.
-- BL leaves the next word's address with the status in R14.
abbrev pub state_after_branch : State → Bool → ℕ → State
state_after_branch s links distance =
    if links then with_pc (with_register s 14 (psr_bits s.psr + ahead s 1)) (s.pc + 8 + 4 * distance)
    else with_pc s (s.pc + 8 + 4 * distance)
