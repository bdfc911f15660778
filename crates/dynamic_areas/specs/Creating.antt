-- OS_DynamicArea, reason 0: a new area. Refusals come in the order of their numbers (RISC OS 3
-- Programmer's Reference Manual, supplement, "OS_DynamicArea"; the limits, the lowest gap and the
-- least number, and the order of the refusals, are this project's own).
use Rattle.profile.specs.MemoryMap.{area_window_start}
use Rattle.std.specs.Prelude.{ℕ, ◌+◌, ◌-◌, ◌*◌, ◌/◌, ◌%◌, ◌==◌, ◌&&◌, ◌||◌, not, Bool, zero, suc, nat_le, nat_lt, Option, Some, None, is_some, ok_or, Result, Ok, Err, List, [], ◌∷◌, length, if◌then◌else◌}
use Rattle.profile.specs.Outcome.{bind}
use Rattle.profile.specs.Sizes.{Sizes}
use Rattle.profile.specs.ErrorNumber.{ErrorNumber}
use Rattle.profile.specs.ErrorNumber.TheVariants.{AreaBad, AreaTaken, AreaTableFull, AreaNoPages}
use Rattle.dynamic_areas.specs.declared.area.Area.{Area}
use Rattle.dynamic_areas.specs.declared.area.Wanted.{Wanted}
use Rattle.dynamic_areas.specs.declared.area.Created.{Created}
use Rattle.dynamic_areas.specs.Areas.{AreaTable, minus_one, find_area, with_area, with_areas, is_created}
use Rattle.dynamic_areas.specs.Rooms.{can_name_area, is_in_window, meets_area}

-- bytes rounded up to pages
abbrev pub pages_for : ℕ → ℕ
pages_for bytes = (bytes + 4095) / 4096

-- The least number from `number` on that no area has. The numbers ascend, so it is found before the
-- first greater one.
abbrev pub least_number : ℕ → List Area → ℕ
least_number number [] = number
least_number number (a ∷ others) =
    if nat_lt number a.number then number else (
    if a.number == number then least_number (number + 1) others else
    least_number number others)

-- the lowest of `n` page addresses from `base` on where an area of that maximum meets no other
abbrev pub lowest_from : List Area → ℕ → ℕ → ℕ → Option ℕ
lowest_from areas maximum base zero = None
lowest_from areas maximum base (suc n) =
    if meets_area base maximum areas then lowest_from areas maximum (base + 4096) n else Some base

-- the lowest gap of the window that holds the maximum
abbrev pub gap_count : ℕ → ℕ
gap_count maximum = (0x01000000 - maximum) / 4096 + 1

unfoldable pub lowest_gap : List Area → ℕ → Option ℕ
lowest_gap areas maximum = lowest_from areas maximum area_window_start (gap_count maximum)

-- what is meant by the words of a call: -1 as the maximum is all memory of the machine, as the
-- number the least free one, as the base the lowest gap
abbrev pub wanted_maximum : Sizes → ℕ → ℕ
wanted_maximum sizes word = if word == minus_one then 4096 * sizes.pages else 4096 * pages_for word

abbrev pub wanted_number : List Area → ℕ → ℕ
wanted_number areas word = if word == minus_one then least_number 256 areas else word

abbrev pub wanted_base : List Area → ℕ → ℕ → Option ℕ
wanted_base areas word maximum =
    if word == minus_one then lowest_gap areas maximum else
    (if meets_area word maximum areas then None else Some word)

abbrev pub is_good_base : ℕ → ℕ → Bool
is_good_base word maximum = word == minus_one || (word % 4096 == 0 && is_in_window word maximum)

-- are these sizes, words, and name those of an area that may be?
abbrev pub are_good_sizes : ℕ → ℕ → Bool
are_good_sizes maximum size = (nat_le 1 maximum && nat_le maximum 16777216)
    && nat_le (4096 * pages_for size) maximum

abbrev pub is_good_number : ℕ → Bool
is_good_number word = word == minus_one || is_created word

abbrev pub is_good : ℕ → Wanted → List ℕ → Bool
is_good maximum w name =
    are_good_sizes maximum w.size && ((is_good_number w.number && w.handler == 0)
    && (is_good_base w.base maximum && can_name_area name))

abbrev pub new_area : ℕ → ℕ → ℕ → Wanted → List ℕ → Area
new_area number base maximum w name = record {
  number = number;
  name = record { items = name };
  base = base;
  pages = pages_for w.size;
  maximum = maximum;
  flags = w.flags;
  workspace = w.workspace;
}

-- the area that the words ask for, where it is allowed; `free` is the pool
unfoldable pub area_wanted : AreaTable → ℕ → Wanted → List ℕ → Result Area ErrorNumber
area_wanted l free w name =
    let maximum : ℕ = wanted_maximum l.sizes w.maximum in
    let number : ℕ = wanted_number l.areas w.number in
    if not (is_good maximum w name) then Err AreaBad else (
    if is_some (find_area number l.areas) then Err AreaTaken else
    bind (ok_or (wanted_base l.areas w.base maximum) AreaTaken) (λ base.
    if nat_le 32 (length l.areas) then Err AreaTableFull else (
    if nat_lt free (pages_for w.size) then Err AreaNoPages else
    Ok (new_area number base maximum w name))))

abbrev pub created_of : Area → Created
created_of a = record { number = a.number; base = a.base; maximum = a.maximum }

unfoldable pub area_table_after_create : AreaTable → ℕ → Wanted → List ℕ → Result (AreaTable × Created)
    ErrorNumber
area_table_after_create l free w name =
    bind (area_wanted l free w name) (λ a. Ok (with_areas l (with_area a l.areas), created_of a))
