-- Sums and differences of words, and the flags by which they show.
use Rattle.std.proofs.Common.{◌≡◌, ◌↔◌, ◌⊎◌, ◌<◌, ◌≤◌, ◌+◌, ◌-◌, ◌%◌, ◌^◌, ℕ, ℤ, pos, negsuc, ◌+ℤ◌, ◌-ℤ◌, Bool, nat_eq, inl, inr, arith, rules}
use Rattle.std.specs.Prelude.{IsTrue, not, nat_le, ◌≤ℤ◌, ◌<ℤ◌}
use Rattle.std.specs.Int.{from_bool}
use Rattle.std.proofs.lemmas.Bool.{cases_lt}
use Rattle.std.proofs.lemmas.Bool.Decides.{nat_tests}
use Rattle.std.proofs.lemmas.Grind.{common_steps}
use Rattle.std.proofs.lemmas.Int.{ints}
use Rattle.arm_decode.specs.Sums.{difference_of, is_signed_word, signed_value_of, sum_of}
use Rattle.arm_decode.specs.Sum.{Sum}
use Rattle.arm_decode.specs.Word.{bit_of}
use Rattle.arm_decode.specs.declared.operation.Operation.{Operation}
use Rattle.arm_core.specs.declared.psr.Psr.{Psr}
use Rattle.law_machine.specs.flags.Flags.{AreExactFlags, IsWordOfNumber, carry_begins}

-- the flags of a sum
abbrev pub with_flags_of : Psr → Sum → Psr
with_flags_of p r = record p { negative = bit_of r.value 31; zero = nat_eq r.value 0; carry = r.carry; overflow = r.overflow }

sign_bit : (r : ℕ) → r < 2 ^ 32 → IsTrue (bit_of r 31) ↔ (signed_value_of r <ℤ pos 0)
sign_bit r word = first_of (search rules, grind (arith, ints, nat_tests, common_steps))

is_zero : (r : ℕ) → IsTrue (nat_eq r 0) ↔ (r ≡ 0)
is_zero r = first_of (search rules, grind (arith, nat_tests))

leaves_words : (z : ℤ) → IsTrue (not (is_signed_word z)) ↔ ((z <ℤ negsuc (2 ^ 31 - 1)) ⊎ (pos (2 ^ 31 - 1) <ℤ z))
leaves_words z = first_of (search rules, grind (arith, ints, nat_tests, common_steps))

-- a sum
sum_word : (x y k : ℕ) (z : ℤ) → x < 2 ^ 32 → y < 2 ^ 32 → k ≤ 1 → z ≡ pos x +ℤ pos y +ℤ pos k → IsWordOfNumber z ((x + y + k) % 2 ^ 32)
sum_word x y k z h g l is = elim (cases_lt (x + y + k) (2 ^ 32)) [
  | inl less ↦ inl (omega (arith, ints))
  | inr more ↦ inr (inl (omega (arith, ints)))
]

sum_carry : (x y k : ℕ) (z : ℤ) → z ≡ pos x +ℤ pos y +ℤ pos k → IsTrue (nat_le (2 ^ 32) (x + y + k)) ↔ (pos (2 ^ 32) ≤ℤ z)
sum_carry x y k z is = first_of (search rules, grind (arith, ints, nat_tests))

pub exact_sum : (o : Operation) (p : Psr) (x y : ℕ) (c : Bool) (plain signed : ℤ) → carry_begins o ≡ pos (2 ^ 32) → x < 2 ^ 32 → y < 2 ^ 32
    → plain ≡ pos x +ℤ pos y +ℤ pos (from_bool c) → signed ≡ signed_value_of x +ℤ signed_value_of y +ℤ pos (from_bool c)
    → AreExactFlags o plain signed (sum_of x y c).value (with_flags_of p (sum_of x y c))
exact_sum o p x y c plain signed begins h g is signed_is = record {
  word = omega arith;
  result = sum_word x y (from_bool c) plain h g (first_of (search rules, grind (arith, nat_tests, common_steps))) is;
  negative = sign_bit (sum_of x y c).value (omega arith);
  zero = is_zero (sum_of x y c).value;
  carry = rw begins (sum_carry x y (from_bool c) plain is);
  overflow = rw signed_is (leaves_words (signed_value_of x +ℤ signed_value_of y +ℤ pos (from_bool c)));
}

-- a difference
difference_word : (x y k : ℕ) (z : ℤ) → x < 2 ^ 32 → y < 2 ^ 32 → k ≤ 1 → z ≡ pos x -ℤ pos y -ℤ pos 1 +ℤ pos k
    → IsWordOfNumber z ((2 ^ 32 + x + k - (y + 1)) % 2 ^ 32)
difference_word x y k z h g l is = elim (cases_lt (x + k) (y + 1)) [
  | inl borrows ↦ inr (inr (omega (arith, ints)))
  | inr enough ↦ inl (omega (arith, ints))
]

difference_carry : (x y k : ℕ) (z : ℤ) → z ≡ pos x -ℤ pos y -ℤ pos 1 +ℤ pos k → IsTrue (nat_le (y + 1) (x + k)) ↔ (pos 0 ≤ℤ z)
difference_carry x y k z is = first_of (search rules, grind (arith, ints, nat_tests))

pub exact_difference : (o : Operation) (p : Psr) (x y : ℕ) (c : Bool) (plain signed : ℤ) → carry_begins o ≡ pos 0 → x < 2 ^ 32 → y < 2 ^ 32
    → plain ≡ pos x -ℤ pos y -ℤ pos 1 +ℤ pos (from_bool c) → signed ≡ signed_value_of x -ℤ signed_value_of y -ℤ pos 1 +ℤ pos (from_bool c)
    → AreExactFlags o plain signed (difference_of x y c).value (with_flags_of p (difference_of x y c))
exact_difference o p x y c plain signed begins h g is signed_is = record {
  word = omega arith;
  result = difference_word x y (from_bool c) plain h g (first_of (search rules, grind (arith, nat_tests, common_steps))) is;
  negative = sign_bit (difference_of x y c).value (omega arith);
  zero = is_zero (difference_of x y c).value;
  carry = rw begins (difference_carry x y (from_bool c) plain is);
  overflow = rw signed_is (leaves_words (signed_value_of x -ℤ signed_value_of y -ℤ pos 1 +ℤ pos (from_bool c)));
}
