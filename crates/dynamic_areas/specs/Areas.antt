-- Dynamic areas as a list by number, and what calls answer of it (RISC OS 3 Programmer's Reference
-- Manual, "OS_ReadDynamicArea", and its supplement, "OS_DynamicArea"; the numbers of created areas,
-- the limits, and the order of the refusals, are this project's own).
use Rattle.profile.specs.MemoryMap.{module_area_start}
use Rattle.std.specs.Prelude.{ℕ, ◌+◌, ◌-◌, ◌*◌, ◌==◌, ◌&&◌, ◌||◌, not, Bool, nat_le, nat_lt, Option, Some, None, is_some, ok_or, Result, Ok, Err, List, [], ◌∷◌, codes, if◌then◌else◌}
use Rattle.profile.specs.Outcome.{bind}
use Rattle.profile.specs.Sizes.{Sizes}
use Rattle.profile.specs.ErrorNumber.{ErrorNumber}
use Rattle.profile.specs.ErrorNumber.TheVariants.{AreaUnknown, AreaBad, AreaTaken}
use Rattle.dynamic_areas.specs.declared.area.Area.{Area}
use Rattle.dynamic_areas.specs.declared.area.Extent.{Extent}

-- The area table: the sizes of the machine, and its areas in the order of their numbers.
pub record AreaTable : Type 0 where
  pub sizes : Sizes
  pub areas : List Area

-- the word -1
abbrev pub minus_one : ℕ
minus_one = 0xFFFFFFFF

-- area 1, the module area, with so many pages
abbrev pub module_area : ℕ → Area
module_area pages = record {
  number = 1;
  name = record { items = codes "RMA" };
  base = module_area_start;
  pages = pages;
  maximum = 4194304;
  flags = 0;
  workspace = 0;
}

-- the start: the module area alone
abbrev pub start_area_table : Sizes → AreaTable
start_area_table sizes = record { sizes = sizes; areas = module_area sizes.rma ∷ [] }

-- the area of a number
abbrev pub find_area : ℕ → List Area → Option Area
find_area number [] = None
find_area number (a ∷ others) = if a.number == number then Some a else find_area number others

abbrev pub area_in : List Area → ℕ → Result Area ErrorNumber
area_in areas number = ok_or (find_area number areas) AreaUnknown

-- an area, and the areas, after one got another count of pages
abbrev pub area_with_pages : ℕ → Area → Area
area_with_pages pages a = record {
  number = a.number;
  name = a.name;
  base = a.base;
  pages = pages;
  maximum = a.maximum;
  flags = a.flags;
  workspace = a.workspace;
}

abbrev pub with_pages : ℕ → ℕ → List Area → List Area
with_pages number pages [] = []
with_pages number pages (a ∷ others) = if a.number == number then area_with_pages pages a ∷ others
    else a ∷ with_pages number pages others

-- the areas with one more, at its place by number
abbrev pub with_area : Area → List Area → List Area
with_area area [] = area ∷ []
with_area area (a ∷ others) = if nat_lt area.number a.number then area ∷ a ∷ others
    else a ∷ with_area area others

-- and without the one of a number
abbrev pub without_area : ℕ → List Area → List Area
without_area number [] = []
without_area number (a ∷ others) = if a.number == number then others else a ∷ without_area number others

abbrev pub with_areas : AreaTable → List Area → AreaTable
with_areas l areas = record { sizes = l.sizes; areas = areas }

-- all pages of the areas
abbrev pub pages_of : List Area → ℕ
pages_of [] = 0
pages_of (a ∷ others) = a.pages + pages_of others

-- OS_ReadDynamicArea: bit 7 of a number below 256 is no part of it, but asks for the maximum; from
-- 256 on the answer has that too.
abbrev pub asked_number : ℕ → ℕ
asked_number word = if nat_le 128 word && nat_lt word 256 then word - 128 else word

abbrev pub extent_of : ℕ → Area → Extent
extent_of word a = record {
  base = a.base;
  size = 4096 * a.pages;
  maximum = if nat_le 128 word then
      Some a.maximum else None;
}

unfoldable pub extent_asked : List Area → ℕ → Result Extent ErrorNumber
extent_asked areas word = bind (area_in areas (asked_number word)) (λ a. Ok (extent_of word a))

-- OS_DynamicArea, reason 3: from -1 or the number of an area to the next greater number, or to -1
-- after the last.
abbrev pub next_above : ℕ → List Area → ℕ
next_above number [] = minus_one
next_above number (a ∷ others) = if nat_lt number a.number then a.number else next_above number others

unfoldable pub next_number : List Area → ℕ → Result ℕ ErrorNumber
next_number areas number =
    if number == minus_one then Ok (next_above 0 areas)
    else bind (area_in areas number) (λ _. Ok (next_above number areas))

-- the numbers of created areas
abbrev pub is_created : ℕ → Bool
is_created number = nat_le 256 number && nat_le number 0x7FFFFFFF

-- OS_DynamicArea, reason 4: the module area keeps its number, and a created one gets one that no
-- area has, its own included.
abbrev pub with_number : ℕ → Area → Area
with_number number a = record {
  number = number;
  name = a.name;
  base = a.base;
  pages = a.pages;
  maximum = a.maximum;
  flags = a.flags;
  workspace = a.workspace;
}

unfoldable pub areas_after_renumber : List Area → ℕ → ℕ → Result (List Area) ErrorNumber
areas_after_renumber areas old new =
    bind (area_in areas old) (λ a.
    if old == 1 || not (is_created new) then Err AreaBad else (
    if is_some (find_area new areas) then Err AreaTaken else
    Ok (with_area (with_number new a) (without_area old areas))))
