-- The addresses at which a run stops: multiples of 4, at most 16.
use Rattle.std.specs.Prelude.{ℕ, Bool, not, ◌+◌, ◌%◌, ◌/◌, ◌≡◌, true, false, get_or, ◌==◌, nat_le, Option, Some, None, Result, Ok, Err, List, [], ◌∷◌, ◌++◌, length, take, drop, if◌then◌else◌}
use Rattle.std.specs.List.{list_any, position, All}
use Rattle.arm_core.specs.declared.breaks.breaks.BreakError.{BreakError}
use Rattle.arm_core.specs.declared.breaks.breaks.BreakError.TheVariants.{Unaligned, BreakTableFull, NoBreak}

unfoldable pub is_among : List ℕ → ℕ → Bool
is_among breaks a = list_any (λ b. b == a) breaks

-- one more; one that is there already is there once
abbrev pub with_break : List ℕ → ℕ → Result (List ℕ) BreakError
with_break breaks a =
    if not (a % 4 == 0) then Err Unaligned else (
    if is_among breaks a then Ok breaks else (
    if nat_le 16 (length breaks) then Err BreakTableFull else
    Ok (breaks ++ a ∷ [])))

-- one less: the list without the item at the place where the address is first found
abbrev pub without_place : List ℕ → Option ℕ → Result (List ℕ) BreakError
without_place breaks None = Err NoBreak
without_place breaks (Some k) = Ok (take k breaks ++ drop (k + 1) breaks)

abbrev pub without_break : List ℕ → ℕ → Result (List ℕ) BreakError
without_break breaks a = without_place breaks (position (λ b. b == a) breaks)

-- the place of the mark of an address
abbrev pub mark_place_of : ℕ → ℕ
mark_place_of a = a / 4 % 64

-- the mark of each break is set
abbrev pub AreBreaksMarked : List Bool → List ℕ → Type 0
AreBreaksMarked marks breaks = All (λ a. get_or marks (mark_place_of a) false ≡ true) breaks
