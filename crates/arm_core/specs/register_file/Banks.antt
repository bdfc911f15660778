-- A file of 26 registers, of which those from one up to R14 have changed places with the ones so far ahead.
use Rattle.std.specs.Prelude.{ℕ, Bool, ◌+◌, ◌-◌, ◌&&◌, nat_lt, nat_le, if◌then◌else◌, List, map, slice_index}
use Rattle.std.specs.List.{range_with_len}

-- such registers lie apart from their places ahead, and both in the file
unfoldable pub is_bank : ℕ → ℕ → Bool
is_bank first ahead = nat_le first 15 && nat_le 15 (first + ahead) && nat_le ahead 11

-- the place that a place changes with, where those from `first` up to `end` change with those so far ahead
abbrev pub changed_place : ℕ → ℕ → ℕ → ℕ → ℕ
changed_place first end ahead k = if nat_lt k first then k else (if nat_lt k end then k + ahead else (
    if nat_lt k (first + ahead) then k else (if nat_lt k (end + ahead) then k - ahead else k)))

unfoldable pub bank_exchanged : ℕ → ℕ → List ℕ → List ℕ
bank_exchanged first ahead file =
    map (λ k. slice_index file (changed_place first 15 ahead k)) (range_with_len 0 26)
