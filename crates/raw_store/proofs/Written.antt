-- The bytes of a region after a write, one by one.
use Rattle.std.proofs.Common.{◌≡◌, ℕ, ◌+◌, ◌<◌, ◌≤◌, List, length, get_or, arith}
use Rattle.std.proofs.lemmas.List.{places}
use Rattle.raw_store.specs.Region.{bytes_after_write}

pub length-written : (bytes new : List ℕ) (at : ℕ) → at + length new ≤ length bytes → length (bytes_after_write bytes at new) ≡ length bytes
length-written bytes new at fits = grind (arith, places)

pub written_inside : (bytes new : List ℕ) (at k d : ℕ) → at + length new ≤ length bytes → k < length new
    → get_or (bytes_after_write bytes at new) (at + k) d ≡ get_or new k d
written_inside bytes new at k d fits below = grind (arith, places)

pub written_before : (bytes new : List ℕ) (at k d : ℕ) → at + length new ≤ length bytes → k < at
    → get_or (bytes_after_write bytes at new) k d ≡ get_or bytes k d
written_before bytes new at k d fits below = grind (arith, places)

pub written_past : (bytes new : List ℕ) (at k d : ℕ) → at + length new ≤ length bytes → at + length new ≤ k
    → get_or (bytes_after_write bytes at new) k d ≡ get_or bytes k d
written_past bytes new at k d fits past = grind (arith, places)
