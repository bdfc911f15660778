-- The breaks that GDB sets: 256 at most, beside those of the machine's own table.
use Rattle.std.specs.Prelude.{ℕ, ◌%◌, ◌==◌, List, [], ◌∷◌, ◌++◌, length, remove, Option, Some, None, Result, Ok, Err, if◌then◌else◌}
use Rattle.std.specs.List.{position}
use Rattle.arm_core.specs.declared.breaks.breaks.BreakError.{BreakError}
use Rattle.arm_core.specs.declared.breaks.breaks.BreakError.TheVariants.{BreakTableFull, Unaligned}
unfoldable pub use Rattle.arm_core.specs.breaks.Breaks.{is_among}

abbrev pub most_breaks : ℕ
most_breaks = 256

abbrev pub with_break_place : List ℕ → ℕ → Result (List ℕ) BreakError
with_break_place breaks a =
    if is_among breaks a then Ok breaks else (
    if length breaks == most_breaks then Err BreakTableFull else Ok (breaks ++ a ∷ []))

-- one more, where there is room, at a multiple of 4; one that is there already is there once
abbrev pub with_gdb_break : List ℕ → ℕ → Result (List ℕ) BreakError
with_gdb_break breaks a = if a % 4 == 0 then with_break_place breaks a else Err Unaligned

abbrev pub without_break_place : Option ℕ → List ℕ → List ℕ
without_break_place None breaks = breaks
without_break_place (Some place) breaks = remove breaks place

-- one less, where it is there
abbrev pub without_gdb_break : List ℕ → ℕ → List ℕ
without_gdb_break breaks a = without_break_place (position (λ b. b == a) breaks) breaks
