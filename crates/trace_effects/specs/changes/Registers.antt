-- The registers that differ between two cores, by their places in the file of all banks.
use Rattle.std.specs.Prelude.{ℕ, zero, suc, ◌≡◌, ◌<◌, ◌≤◌, ◌==◌, List, [], ◌∷◌, ◌++◌, ◌+◌, ◌-◌, nat_lt, slice_index, Option, Some, None, if◌then◌else◌}
use Rattle.arm_core.specs.declared.psr.Mode.{Mode}
use Rattle.arm_core.specs.declared.psr.Mode.TheVariants.{User, FastInterrupt, Interrupt, Supervisor}
use Rattle.arm_core.specs.State.{State, slot_of}
use Rattle.trace_effects.specs.declared.changes.registers.RegisterChange.{RegisterChange}

-- the bank of the register at a place, and its number there: R0 to R14 of USR, R8 to R14 of FIQ, R13
-- and R14 of IRQ, R13 and R14 of SVC
abbrev pub home_of : ℕ → Mode × ℕ
home_of place =
    if nat_lt place 15 then (User, place) else (
    if nat_lt place 22 then (FastInterrupt, place - 7) else (
    if nat_lt place 24 then (Interrupt, place - 9) else
    (Supervisor, place - 11)))

-- At the places from one up to another lie registers of a mode, so many places behind their numbers.
pub record IsBank (mode : Mode) (behind first end : ℕ) : Type 0 where
  pub from : behind ≤ first
  pub numbers : (place : ℕ) → first ≤ place → place < end → place - behind < 15
  pub places : (place : ℕ) → first ≤ place → place < end → slot_of mode (place - behind) ≡ place

-- what a change of the register at a place is
abbrev pub register_change : List ℕ → List ℕ → ℕ → RegisterChange
register_change old new place =
    record { place = place; old = slice_index old place; new = slice_index new place }

-- that of a place, if the register there differs
abbrev pub change_at : List ℕ → List ℕ → ℕ → List RegisterChange
change_at old new place =
    if slice_index old place == slice_index new place then [] else register_change old new place ∷ []

-- those of so many first places
unfoldable pub changes_below : List ℕ → List ℕ → ℕ → List RegisterChange
changes_below old new zero = []
changes_below old new (suc n) = changes_below old new n ++ change_at old new n

-- those of all 26
abbrev pub changes_of : State → State → List RegisterChange
changes_of s s' = changes_below s.file s'.file 26

-- The first change at the places from one up to another: up to it nothing else differs.
pub record IsNext (old new : List ℕ) (first end : ℕ) (c : RegisterChange) : Type 0 where
  pub above : first ≤ c.place
  pub inside : c.place < end
  pub listed : changes_below old new (c.place + 1) ≡ changes_below old new first ++ c ∷ []

-- ..or that nothing differs there
abbrev pub IsNextIn : List ℕ → List ℕ → ℕ → ℕ → Option RegisterChange → Type 0
IsNextIn old new first end None = changes_below old new end ≡ changes_below old new first
IsNextIn old new first end (Some c) = IsNext old new first end c

abbrev pub IsNextChange : State → State → ℕ → Option RegisterChange → Type 0
IsNextChange s s' first next = IsNextIn s.file s'.file first 26 next
