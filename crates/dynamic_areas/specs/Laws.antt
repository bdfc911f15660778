-- What calls choose where a word leaves the choice to them, and how far an area shrinks (RISC OS 3
-- Programmer's Reference Manual, "OS_ChangeDynamicArea", and its supplement, "OS_DynamicArea"; the
-- lowest gap and the least number are this project's own).
use Rattle.std.specs.Prelude.{ℕ, ◌≡◌, ◌≤◌, ◌<◌, ◌+◌, ◌-◌, ◌*◌, ◌%◌, Bool, true, false, List, None, is_some, MatchOption}
use Rattle.dynamic_areas.specs.declared.area.Area.{Area}
use Rattle.dynamic_areas.specs.Areas.{find_area}
use Rattle.dynamic_areas.specs.Changing.{held_from}
use Rattle.dynamic_areas.specs.Creating.{least_number, lowest_gap}
use Rattle.dynamic_areas.specs.Rooms.{IsAreaTable, is_in_window, meets_area}

-- a page address in the window, where an area of that maximum meets no other
pub record IsGap (areas : List Area) (maximum base : ℕ) : Type 0 where
  pub clear : meets_area base maximum areas ≡ false
  pub page : base % 4096 ≡ 0
  pub inside : is_in_window base maximum ≡ true

-- the gap that is chosen is one, and no other is lower; none is chosen only where there is none
abbrev pub LowestGapIsChosen : Type 0
LowestGapIsChosen = (areas : List Area) (maximum : ℕ) → maximum ≤ 16777216 →
    MatchOption (lowest_gap areas maximum)
    ((other : ℕ) → IsGap areas maximum other → ⊥)
    (λ base. IsGap areas maximum base × ((other : ℕ) → IsGap areas maximum other → base ≤ other))

-- no area has the number, and each lower one, from the first on, has an area
pub record IsLeastFree (areas : List Area) (first least : ℕ) : Type 0 where
  pub from : first ≤ least
  pub free : find_area least areas ≡ None
  pub taken : (number : ℕ) → first ≤ number → number < least → is_some (find_area number areas) ≡ true

abbrev pub LeastNumberIsChosen : Type 0
LeastNumberIsChosen = (areas : List Area) (first : ℕ) → IsAreaTable areas →
    IsLeastFree areas first (least_number first areas)

-- of `count` pages, those from `held` on don't stay, and the last one below them does
pub record IsHeldAt (stays : ℕ → Bool) (base count held : ℕ) : Type 0 where
  pub within : held ≤ count
  pub loose : (page : ℕ) → held ≤ page → page < count → stays (base + 4096 * page) ≡ false
  pub last : 0 < held → stays (base + 4096 * (held - 1)) ≡ true

abbrev pub ShrinksToFirstHeld : Type 0
ShrinksToFirstHeld = (stays : ℕ → Bool) (base count : ℕ) →
    IsHeldAt stays base count (held_from stays base count)
