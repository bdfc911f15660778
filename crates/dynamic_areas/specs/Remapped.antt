-- The store after pages were mapped, or taken away: no byte of another page changes, no list of a
-- heap, and no recorded range.
use Rattle.std.specs.Prelude.{ℕ, ◌&&◌, ◌||◌, not}
use Rattle.os_heap.specs.Bytes.{in_range, with_zeros_at}
use Rattle.os_heap.specs.Store.{Store}

-- the `len` bytes from `at` on are mapped too; they are 0, as those that are not mapped
abbrev pub with_pages_at : Store → ℕ → ℕ → Store
with_pages_at s at len = record s {
  bytes = record {
    mapped = λ a. in_range at len a || s.bytes.mapped a;
    at = s.bytes.at;
  };
}

abbrev pub without_pages_at : Store → ℕ → ℕ → Store
without_pages_at s at len = record s {
  bytes = record {
    mapped = λ a. s.bytes.mapped a && not (in_range at len a);
    at = with_zeros_at s.bytes.at at len;
  };
}
