-- Sums and differences of words with carry and signed overflow, in exact numbers (ARM2 data sheet,
-- "Data processing", "Condition codes"): a sum carries where the exact sum reaches 2^32, and
-- overflows where the exact signed sum leaves -2^31 to 2^31 - 1.
use Rattle.std.specs.Prelude.{ℕ, ℤ, pos, negsuc, Bool, not, ◌&&◌, ◌+◌, ◌-◌, ◌%◌, ◌^◌, nat_le, int_le, ◌+ℤ◌, ◌-ℤ◌}
use Rattle.std.specs.Int.{cast_signed, from_bool, w32}
use Rattle.profile.specs.declared.word.Sum.{Sum}

-- the number that a word stands for in two's complement
abbrev pub signed_value_of : ℕ → ℤ
signed_value_of word = cast_signed w32 word

abbrev pub is_signed_word : ℤ → Bool
is_signed_word z = int_le (negsuc (2 ^ 31 - 1)) z && int_le z (pos (2 ^ 31 - 1))

-- left + right + carry
abbrev pub sum_of : ℕ → ℕ → Bool → Sum
sum_of x y c = record {
  value = (x + y + from_bool c) % 2 ^ 32;
  carry = nat_le (2 ^ 32) (x + y + from_bool c);
  overflow = not (is_signed_word (signed_value_of x +ℤ signed_value_of y +ℤ pos (from_bool c)));
}

-- left - right - 1 + carry; the carry of a difference means that nothing was borrowed
abbrev pub difference_of : ℕ → ℕ → Bool → Sum
difference_of x y c = record {
  value = (2 ^ 32 + x + from_bool c - (y + 1)) % 2 ^ 32;
  carry = nat_le (y + 1) (x + from_bool c);
  overflow = not (is_signed_word (signed_value_of x -ℤ signed_value_of y -ℤ pos 1 +ℤ pos (from_bool c)));
}

-- so many bytes further, modulo 2^32
abbrev pub address_further : ℕ → ℕ → ℕ
address_further address count = (address + count) % 2 ^ 32
