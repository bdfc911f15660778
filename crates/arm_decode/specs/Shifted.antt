-- Shifts of words in exact numbers (ARM2 data sheet, "Shifts"): a shift to the left multiplies by a
-- power of two, one to the right divides by it and rounds down, a rotation moves what falls out at
-- the bottom to the top. The carry is the last bit shifted out. An amount is at least 1 here; each
-- formula holds for every amount, past 32 too.
use Rattle.std.specs.Prelude.{ℕ, Bool, ◌+◌, ◌-◌, ◌*◌, ◌/◌, ◌%◌, ◌^◌, min}
use Rattle.std.specs.Int.{cast_unsigned, int_shr, from_bool, w32}
use Rattle.profile.specs.Word.{bit_of}
use Rattle.profile.specs.Sums.{signed_value_of}
use Rattle.arm_decode.specs.declared.shifted.Shifted.{Shifted}

abbrev pub shifted_left : ℕ → ℕ → Shifted
shifted_left x n = record { value = x * 2 ^ n % 2 ^ 32; carry = bit_of (x * 2 ^ n) 32 }

abbrev pub shifted_right : ℕ → ℕ → Shifted
shifted_right x n = record { value = x / 2 ^ n; carry = bit_of x (n - 1) }

-- the sign fills the top; past 32 every bit that falls out is the sign
abbrev pub shifted_signed : ℕ → ℕ → Shifted
shifted_signed x n = record {
  value = cast_unsigned w32 (int_shr (signed_value_of x) n);
  carry = bit_of x (min n 32 - 1);
}

abbrev pub rotated_right : ℕ → ℕ → ℕ
rotated_right x n = x / 2 ^ (n % 32) + x % 2 ^ (n % 32) * 2 ^ (32 - n % 32)

abbrev pub rotation_of : ℕ → ℕ → Shifted
rotation_of x n = record { value = rotated_right x n; carry = bit_of (rotated_right x n) 31 }

-- one place to the right with the carry going in at the top (RRX)
abbrev pub rotated_through : ℕ → Bool → Shifted
rotated_through x c = record { value = from_bool c * 2 ^ 31 + x / 2; carry = bit_of x 0 }
