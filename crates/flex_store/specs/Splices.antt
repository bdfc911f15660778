-- A change of a block's bytes, and the room that it takes.
use Rattle.std.specs.Prelude.{ℕ, Bool, ◌≤◌, ◌+◌, ◌-◌, ◌^◌}
use Rattle.os_heap.specs.Bytes.{AreMapped}
use Rattle.flex_store.specs.declared.splice.Splice.{Splice}
use Rattle.flex_store.specs.Blocks.{whole_words}

abbrev pub size_after_splice : Splice → ℕ → ℕ
size_after_splice s size = s.at - s.cut + s.more + (size - s.at)

-- it takes away bytes that a block of that size has
pub record IsSplice (s : Splice) (size : ℕ) : Type 0 where
  pub cut : s.cut ≤ s.at
  pub at : s.at ≤ size

-- the bytes of the old size and of the new one, with those that fill them up, are mapped
pub record HasBytesForSizes (mapped : ℕ → Bool) (contents size new : ℕ) : Type 0 where
  pub old : AreMapped mapped contents (whole_words size)
  pub new_bytes : AreMapped mapped contents (whole_words new)
  pub old_low : contents + whole_words size ≤ 2 ^ 26
  pub new_low : contents + whole_words new ≤ 2 ^ 26

-- The bytes from the old end of a block up to `end` are mapped, and so are those that they move to,
-- from its new end on.
pub record CanBytesMove (mapped : ℕ → Bool) (old_end new_end end : ℕ) : Type 0 where
  pub inside : old_end ≤ end
  pub old : AreMapped mapped old_end (end - old_end)
  pub moved : AreMapped mapped new_end (end - old_end)
