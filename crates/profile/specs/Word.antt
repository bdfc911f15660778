-- Words are numbers below 2^32; their fields and bits.
use Rattle.std.specs.Prelude.{ℕ, Bool, ◌/◌, ◌%◌, ◌^◌, ◌==◌}

-- the `size` bits of `word` from bit `low` on
abbrev pub field : ℕ → ℕ → ℕ → ℕ
field word low size = word / 2 ^ low % 2 ^ size

abbrev pub bit_of : ℕ → ℕ → Bool
bit_of word place = word / 2 ^ place % 2 == 1
