-- Bytes that are lent, and words of which one is owned.
use Rattle.std.specs.Prelude.{◌≡◌, ◌<◌, ℕ, zero, suc, ◌+◌, Bool, true, false, ◌||◌, List, length, slice_index}
use Rattle.address_map.specs.Bytes.{Bytes}

-- these are the `len` bytes of memory from `addr` on, all of which are mapped
pub record IsLent (b : Bytes) (addr len : ℕ) (lent : List ℕ) : Type 0 where
  pub size : length lent ≡ len
  pub mapped : (j : ℕ) → j < len → b.mapped (addr + j) ≡ true
  pub bytes : (j : ℕ) → j < len → slice_index lent j ≡ b.at (addr + j)

-- whether one of `n` words is owned, the first of them at `addr`; the bytes of a word are owned
-- together
unfoldable pub any_owned : (ℕ → Bool) → ℕ → ℕ → Bool
any_owned owned addr zero = false
any_owned owned addr (suc n) = owned addr || any_owned owned (addr + 4) n
