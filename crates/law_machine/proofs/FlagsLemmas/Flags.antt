-- What each operation that adds or subtracts leaves.
use Rattle.std.proofs.Common.{◌≡◌, ◌<◌, ◌^◌, ℕ, ℤ, pos, ◌+ℤ◌, ◌-ℤ◌, Bool, true, false, nat_eq, length, Some, refl, sym, subst, arith}
use Rattle.std.specs.Int.{from_bool}
use Rattle.std.proofs.lemmas.Bool.{ne_eqb}
use Rattle.std.proofs.lemmas.Int.{ints}
use Rattle.std.proofs.lemmas.List.{get_or-set_same}
use Rattle.arm_decode.specs.Sums.{signed_value_of}
use Rattle.arm_decode.specs.declared.shifted.Shifted.{Shifted}
use Rattle.arm_decode.specs.Sum.{Sum}
use Rattle.arm_decode.specs.Refusals.{is_test}
use Rattle.arm_decode.specs.declared.action.Operate.{Operate}
use Rattle.arm_decode.specs.declared.operation.Operation.{Operation}
use Rattle.arm_decode.specs.declared.operation.Operation.TheVariants as operation
use Rattle.arm_core.specs.declared.psr.Psr.{Psr}
use Rattle.arm_core.specs.Effect.{plain_operand, with_next_pc}
use Rattle.arm_core.specs.Operand.{operand_of, words_ahead}
use Rattle.arm_core.specs.Operate.{state_after_operate, state_after_result, sum_of_operation}
use Rattle.arm_core.specs.State.{State, IsCore, register_of, slot_of}
use Rattle.arm_core.proofs.Exchanging.{slot_below}
use Rattle.arm_core.proofs.OperandWords.{operand_word, plain_word}
use Rattle.law_machine.specs.flags.Flags.{AreExactFlags, FlagsAreExact, exact_result}
use Rattle.law_machine.proofs.FlagsLemmas.Exact.{exact_difference, exact_sum, with_flags_of}

-- the exact number of the operation, and what it is told to be
only : (a b : ℤ) → Some a ≡ Some b → b ≡ a
only a b is = cc

operation_exact : (o : Operation) (x : ℕ) (y : Shifted) (p : Psr) (plain signed : ℤ) → x < 2 ^ 32 → y.value < 2 ^ 32
    → exact_result o (pos x) (pos y.value) (pos (from_bool p.carry)) ≡ Some plain
    → exact_result o (signed_value_of x) (signed_value_of y.value) (pos (from_bool p.carry)) ≡ Some signed
    → AreExactFlags o plain signed (sum_of_operation o x y p).value (with_flags_of p (sum_of_operation o x y p))
operation_exact operation.Add x y p plain signed h g is signed_is =
    let e : plain ≡ pos x +ℤ pos y.value = only _ plain is in
    let f : signed ≡ signed_value_of x +ℤ signed_value_of y.value = only _ signed signed_is in
    exact_sum operation.Add p x y.value false plain signed refl h g (omega (arith, ints, e)) (omega (arith, ints, f))
operation_exact operation.CompareNegated x y p plain signed h g is signed_is =
    let e : plain ≡ pos x +ℤ pos y.value = only _ plain is in
    let f : signed ≡ signed_value_of x +ℤ signed_value_of y.value = only _ signed signed_is in
    exact_sum operation.CompareNegated p x y.value false plain signed refl h g (omega (arith, ints, e)) (omega (arith, ints, f))
operation_exact operation.AddWithCarry x y p plain signed h g is signed_is =
    exact_sum operation.AddWithCarry p x y.value p.carry plain signed refl h g (only _ plain is) (only _ signed signed_is)
operation_exact operation.Subtract x y p plain signed h g is signed_is =
    let e : plain ≡ pos x -ℤ pos y.value = only _ plain is in
    let f : signed ≡ signed_value_of x -ℤ signed_value_of y.value = only _ signed signed_is in
    exact_difference operation.Subtract p x y.value true plain signed refl h g (omega (arith, ints, e)) (omega (arith, ints, f))
operation_exact operation.Compare x y p plain signed h g is signed_is =
    let e : plain ≡ pos x -ℤ pos y.value = only _ plain is in
    let f : signed ≡ signed_value_of x -ℤ signed_value_of y.value = only _ signed signed_is in
    exact_difference operation.Compare p x y.value true plain signed refl h g (omega (arith, ints, e)) (omega (arith, ints, f))
operation_exact operation.SubtractWithCarry x y p plain signed h g is signed_is =
    exact_difference operation.SubtractWithCarry p x y.value p.carry plain signed refl h g (only _ plain is) (only _ signed signed_is)
operation_exact operation.ReverseSubtract x y p plain signed h g is signed_is =
    let e : plain ≡ pos y.value -ℤ pos x = only _ plain is in
    let f : signed ≡ signed_value_of y.value -ℤ signed_value_of x = only _ signed signed_is in
    exact_difference operation.ReverseSubtract p y.value x true plain signed refl g h (omega (arith, ints, e)) (omega (arith, ints, f))
operation_exact operation.ReverseSubtractWithCarry x y p plain signed h g is signed_is =
    exact_difference operation.ReverseSubtractWithCarry p y.value x p.carry plain signed refl g h (only _ plain is) (only _ signed signed_is)
operation_exact operation.And x y p plain signed h g is signed_is = absurd (cc)
operation_exact operation.ExclusiveOr x y p plain signed h g is signed_is = absurd (cc)
operation_exact operation.Test x y p plain signed h g is signed_is = absurd (cc)
operation_exact operation.TestEquivalence x y p plain signed h g is signed_is = absurd (cc)
operation_exact operation.Or x y p plain signed h g is signed_is = absurd (cc)
operation_exact operation.Move x y p plain signed h g is signed_is = absurd (cc)
operation_exact operation.BitClear x y p plain signed h g is signed_is = absurd (cc)
operation_exact operation.MoveNot x y p plain signed h g is signed_is = absurd (cc)

-- what is done with the result
abbrev sum_done : State → Operate → Sum
sum_done s o = sum_of_operation o.operation (plain_operand s o.rn (words_ahead o.operand)) (operand_of s o.operand) s.psr

flags_by : (test : Bool) (s : State) (o : Operate) (r : Sum) → is_test o.operation ≡ test → nat_eq o.rd 15 ≡ false → o.sets_flags ≡ true
    → (state_after_result (with_next_pc s) o r).psr ≡ with_flags_of s.psr r
flags_by true s o r test away sets = rw (test, away) refl
flags_by false s o r test away sets = rw (test, away, sets) refl

flags_left : (s : State) (o : Operate) → nat_eq o.rd 15 ≡ false → o.sets_flags ≡ true → (state_after_operate s o).psr ≡ with_flags_of s.psr (sum_done s o)
unfolding state_after_operate
flags_left s o away sets = flags_by (is_test o.operation) s o (sum_done s o) refl away sets

register_left : (s : State) (o : Operate) → IsCore s → o.rd < 15 → nat_eq o.rd 15 ≡ false → o.sets_flags ≡ true → is_test o.operation ≡ false
    → register_of (state_after_operate s o) o.rd ≡ (sum_done s o).value
unfolding state_after_operate
register_left s o core low away sets test =
    let there : slot_of s.psr.mode o.rd < length s.file = (let below = slot_below s.psr.mode o.rd low in omega (arith, core.size, below)) in
    rw (test, away, sets) (get_or-set_same s.file (slot_of s.psr.mode o.rd) (sum_done s o).value 0 there)

pub flags_exact : FlagsAreExact
flags_exact s o plain signed given is signed_is =
    let away : nat_eq o.rd 15 ≡ false = ne_eqb o.rd 15 (λ (e : o.rd ≡ 15). omega (arith, e, given.register)) in
    let r : Sum = sum_done s o in
    let exact : AreExactFlags o.operation plain signed r.value (with_flags_of s.psr r) =
    operation_exact o.operation (plain_operand s o.rn (words_ahead o.operand)) (operand_of s o.operand) s.psr plain signed
    (plain_word s o.rn (words_ahead o.operand) given.core) (operand_word s o.operand given.core given.operand) is signed_is in
    record {
      result = r.value;
      flags = subst (λ (p : Psr). AreExactFlags o.operation plain signed r.value p) (sym (flags_left s o away given.flags)) exact;
      register = λ test. register_left s o given.core given.register away given.flags test;
    }
