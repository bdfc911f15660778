-- What a store ends as, once a `&mut` into it has ended.
use Rattle.std.specs.Prelude.{ℕ, List, take}
use Rattle.std.specs.Borrow.{Fml, MutBor, Array, Lends, LendsBoth, u8}
use Rattle.raw_store.specs.Region.{Region, region_with_items, bytes_after_write}
use Rattle.raw_store.specs.contracts.store.RawStore.{the_row}

-- the `len` bytes from `at` on are the last ones written through r, and the others stay as they
-- were
abbrev pub lends_range : MutBor Region → ℕ → ℕ → MutBor (List ℕ) → Fml
lends_range s at len r = Lends the_row (Array u8 0) s r
    (λ ws. region_with_items s.now (bytes_after_write s.now.items at (take len ws)))

-- the same of two ranges, the `n` bytes from `a` on and the `m` from `b` on
abbrev pub lends_ranges : MutBor Region → ℕ → ℕ → ℕ → ℕ → MutBor (List ℕ) × MutBor (List ℕ) → Fml
lends_ranges s a n b m r = LendsBoth the_row (Array u8 0) (Array u8 0) s r
    (λ ws zs. region_with_items s.now (bytes_after_write (bytes_after_write s.now.items a (take n ws)) b
    (take m zs)))
