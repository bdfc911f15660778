-- What the bytes end as, once a `&mut` into them has ended.
use Rattle.std.specs.Prelude.{ℕ, List, take}
use Rattle.std.specs.Borrow.{Fml, MutBor, Array, Lends, u8}
use Rattle.raw_store.specs.Region.{bytes_after_write}
use Rattle.raw_store.specs.declared.block.Bytes.{Bytes}
use Rattle.raw_store.specs.contracts.block.Bytes.{the_row}

abbrev pub bytes_with_items : Bytes → List ℕ → Bytes
bytes_with_items c xs = record { at = c.at; items = xs; spare = c.spare }

-- the `len` bytes from `at` on are the last ones written through r
abbrev pub lends_run : MutBor Bytes → ℕ → ℕ → MutBor (List ℕ) → Fml
lends_run c at len r = Lends the_row (Array u8 0) c r (λ ws. bytes_with_items c.now
    (bytes_after_write c.now.items at (take len ws)))
