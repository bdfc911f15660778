-- What holds of every list of areas: where an area may lie, and that no two of them share an
-- address, each taken with its maximum (RISC OS 3 Programmer's Reference Manual, "Memory
-- management", and its supplement, "OS_DynamicArea"; the window and the limits are this project's
-- own).
use Rattle.profile.specs.MemoryMap.{area_window_end, area_window_start, module_area_start}
use Rattle.std.specs.Prelude.{ℕ, ◌≡◌, ◌≤◌, ◌<◌, ◌+◌, ◌*◌, ◌%◌, ◌==◌, ◌&&◌, Bool, true, false, nat_le, List, [], ◌∷◌, length, is_some, if◌then◌else◌}
use Rattle.std.specs.List.{list_all, list_any}
use Rattle.os_heap.specs.Bytes.{shares_address}
use Rattle.dynamic_areas.specs.declared.area.Area.{Area}
use Rattle.dynamic_areas.specs.Areas.{find_area, is_created}

-- a name: 1 to 31 printing ASCII characters, the space among them
abbrev pub is_area_name_byte : ℕ → Bool
is_area_name_byte byte = nat_le 32 byte && nat_le byte 126

abbrev pub can_name_area : List ℕ → Bool
can_name_area name = (nat_le 1 (length name) && nat_le (length name) 31) && list_all is_area_name_byte name

-- the window of the created areas
abbrev pub is_in_window : ℕ → ℕ → Bool
is_in_window base maximum = nat_le area_window_start base && nat_le (base + maximum) area_window_end

-- the module area stands at its place, and a created one lies in the window
abbrev pub is_place : ℕ → ℕ → ℕ → Bool
is_place number base maximum =
    if number == 1 then base == module_area_start && maximum == 4194304
    else is_created number && is_in_window base maximum

pub record IsAreaRoom (a : Area) : Type 0 where
  pub page : a.base % 4096 ≡ 0
  pub whole : a.maximum % 4096 ≡ 0
  pub within : 4096 * a.pages ≤ a.maximum
  pub place : is_place a.number a.base a.maximum ≡ true
  pub named : can_name_area a.name.items ≡ true

-- does a range share an address with an area's, taken with its maximum?
abbrev pub meets_area : ℕ → ℕ → List Area → Bool
meets_area base maximum areas = list_any (λ a. shares_address base maximum a.base a.maximum) areas

-- an area has a lesser number than each of the others, and shares no address with them
abbrev pub IsBefore : Area → List Area → Type 0
IsBefore a [] = Unit {0}
IsBefore a (b ∷ bs) = ((a.number < b.number) × (shares_address a.base a.maximum b.base b.maximum ≡ false)) ×
    IsBefore a bs

abbrev pub AreRooms : List Area → Type 0
AreRooms [] = Unit {0}
AreRooms (a ∷ others) = IsAreaRoom a × (IsBefore a others × AreRooms others)

pub record IsAreaTable (areas : List Area) : Type 0 where
  pub rooms : AreRooms areas
  pub first : is_some (find_area 1 areas) ≡ true
