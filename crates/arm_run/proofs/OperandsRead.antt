-- Second operands as ops give them.
use Rattle.std.proofs.Common.{◌≡◌, ◌<◌, ◌*◌, ℕ, Bool, true, false, not, nat_eq, refl, sym, ◌∙◌, ap, subst, arith, if◌then◌else◌}
use Rattle.std.proofs.lemmas.Bool.Decides.{nat_tests}
use Rattle.arm_core.specs.Shifted.{rotated_right, rotation_of}
use Rattle.arm_core.specs.Word.{field, bit_of}
use Rattle.arm_step.specs.Shifted.{Shifted}
use Rattle.arm_core.specs.Fields.{shifted_in}
use Rattle.arm_core.specs.Names.{shift_of}
use Rattle.arm_core.specs.ArmDecodeOperand.TheVariants as operand
use Rattle.arm_core.specs.Operation.{Operation}
use Rattle.arm_core.specs.Shift.{Shift}
use Rattle.arm_core.specs.Shift.TheVariants as shift
use Rattle.arm_core.specs.Effect.{plain_operand, status_operand}
use Rattle.arm_core.specs.Operand.{operand_of, rotated_immediate, unshifted_value, shifted_by_number, shifted_by_zero, shifted_value}
use Rattle.arm_core.specs.State.{State, register_in}
use Rattle.arm_predecode.specs.Kinds.{OperatesByRegister, OperatesByShift}
use Rattle.arm_predecode.specs.OpValue.{OpValue}
use Rattle.arm_run.specs.Standing.{core_at}

pub other_below : (n m : ℕ) → n < m → nat_eq n m ≡ false
other_below n m h = grind (arith, nat_tests)

zero_by : (n : ℕ) (z : Bool) → nat_eq n 0 ≡ z → not z ≡ false → n ≡ 0
zero_by n true e f = grind (arith, nat_tests)
zero_by n false e f = absurd (cc)

not_false : (z : Bool) → not z ≡ false → z ≡ true
not_false true e = refl
not_false false e = absurd (cc)

not_true : (z : Bool) → not z ≡ true → z ≡ false
not_true true e = absurd (cc)
not_true false e = refl

by_nothing : (byte rotation : ℕ) → rotation ≡ 0 → rotated_right byte (2 * rotation) ≡ byte
by_nothing byte rotation e =
    let none : rotated_right byte 0 ≡ byte = omega arith in
    let turns : 2 * rotation ≡ 0 = omega arith in
    ap (rotated_right byte) turns ∙ none

pub rotated : (rotation byte v : ℕ) (c is : Bool) → v ≡ rotated_right byte (2 * rotation) → is ≡ not (nat_eq rotation 0) → is ≡ true
    → (let s : Shifted = record { value = v; carry = bit_of v 31 } in s ≡ rotated_immediate rotation byte c)
rotated rotation byte v c is value turned so =
    let some : nat_eq rotation 0 ≡ false = not_true (nat_eq rotation 0) (sym turned ∙ so) in
    ap (λ (x : ℕ). let s : Shifted = record { value = x; carry = bit_of x 31 } in s) value
    ∙ sym (ap (λ (x : Bool). if x then unshifted_value byte c else rotation_of byte (2 * rotation)) some)

pub unrotated : (rotation byte v : ℕ) (c is : Bool) → v ≡ rotated_right byte (2 * rotation) → is ≡ not (nat_eq rotation 0) → is ≡ false
    → (let s : Shifted = record { value = v; carry = c } in s ≡ rotated_immediate rotation byte c)
unrotated rotation byte v c is value turned so =
    let none : nat_eq rotation 0 ≡ true = not_false (nat_eq rotation 0) (sym turned ∙ so) in
    let zero : rotation ≡ 0 = grind (arith, nat_tests) in
    ap (λ (x : ℕ). let s : Shifted = record { value = x; carry = c } in s) (value ∙ by_nothing byte rotation zero)
    ∙ sym (ap (λ (x : Bool). if x then unshifted_value byte c else rotation_of byte (2 * rotation)) none)

pub status_read : (s : State) (at n k : ℕ) → n < 15 → status_operand s.psr.mode (core_at s at) n k ≡ register_in s.psr.mode s n
status_read s at n k h = rw (other_below n 15 h) refl

pub first_read : (s : State) (at n k : ℕ) → n < 15 → plain_operand (core_at s at) n k ≡ register_in s.psr.mode s n
first_read s at n k h = rw (other_below n 15 h) refl

-- a register as it is
pub whole_read : (s : State) (at : ℕ) (r : OpValue) (x : ℕ) → r.rm ≡ field r.word 0 4 → r.rm < 15 → field r.word 7 5 ≡ 0 → shift_of (field r.word 5 2) ≡ shift.LogicalLeft
    → x ≡ register_in s.psr.mode s r.rm → operand_of (core_at s at) (operand.Shifted (shifted_in r.word)) ≡ unshifted_value x s.psr.carry
whole_read s at r x rm rm_below amount whole e =
    let n : ℕ = field r.word 0 4 in
    let below : n < 15 = subst (λ (k : ℕ). k < 15) rm rm_below in
    let kind : Shift = shift_of (field r.word 5 2) in
    ap (λ (k : ℕ). shifted_by_number kind (status_operand s.psr.mode (core_at s at) n 2) k s.psr.carry) amount
    ∙ ap (λ (k : Shift). shifted_by_zero k (status_operand s.psr.mode (core_at s at) n 2) s.psr.carry) whole
    ∙ ap (λ (v : ℕ). unshifted_value v s.psr.carry) (status_read s at n 2 below ∙ ap (λ (k : ℕ). register_in s.psr.mode s k) (sym rm) ∙ sym e)

pub register_read : (s : State) (at : ℕ) (op : Operation) (f : Bool) (r : OpValue) (x : ℕ) → OperatesByRegister op f r → x ≡ register_in s.psr.mode s r.rm
    → operand_of (core_at s at) (operand.Shifted (shifted_in r.word)) ≡ unshifted_value x s.psr.carry
register_read s at op f r x h e = whole_read s at r x h.rm h.rm_below h.amount h.shift e

some_by : (n : ℕ) → 0 < n → nat_eq n 0 ≡ false
some_by n h = grind (arith, nat_tests)

-- a register shifted by some amount
pub shift_read : (s : State) (at : ℕ) (op : Operation) (f : Bool) (r : OpValue) (x : ℕ) → OperatesByShift op f r → x ≡ register_in s.psr.mode s r.rm
    → operand_of (core_at s at) (operand.Shifted (shifted_in r.word)) ≡ shifted_value r.shift x r.value
shift_read s at op f r x h e =
    let n : ℕ = field r.word 0 4 in
    let below : n < 15 = subst (λ (k : ℕ). k < 15) h.rm h.rm_below in
    let kind : Shift = shift_of (field r.word 5 2) in
    let y : ℕ = status_operand s.psr.mode (core_at s at) n 2 in
    ap (λ (k : ℕ). shifted_by_number kind y k s.psr.carry) (sym h.amount)
    ∙ ap (λ (z : Bool). if z then shifted_by_zero kind y s.psr.carry else shifted_value kind y r.value) (some_by r.value h.some)
    ∙ ap (λ (k : Shift). shifted_value k y r.value) (sym h.shift)
    ∙ ap (λ (v : ℕ). shifted_value r.shift v r.value) (status_read s at n 2 below ∙ ap (λ (k : ℕ). register_in s.psr.mode s k) (sym h.rm) ∙ sym e)
