-- Counts are exact.
use Rattle.std.specs.Prelude.{◌≡◌, ◌<◌, ◌^◌, ℕ, List, min}
use Rattle.debug_tables.specs.counts.Counts.{counts_begun, most_times, steps_at, steps_counted, times_at}

-- From where steps are counted on, the count of a word is the number of the steps that were taken at it,
-- or 2^32 - 1 where they were more.
abbrev pub CountsAreExact : Type 0
CountsAreExact = (steps : List ℕ) (address : ℕ) → address < 2 ^ 26
    → times_at (steps_counted steps counts_begun) address ≡ min (steps_at address steps) most_times
