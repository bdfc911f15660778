-- What is found in the list of modules (RISC OS 3 Programmer's Reference Manual, "OS_Module",
-- reasons 12 and 18, and "Modules", "SWI chunk base number"). Modules and instances are numbered by
-- their places in the lists, from 0.
use Rattle.std.specs.Prelude.{ℕ, Bool, not, ◌+◌, ◌-◌, ◌%◌, ◌^◌, ◌==◌, ◌&&◌, nat_lt, List, length, Option, Some, None, option_map, ok_or, slice_get, Result, Ok, if◌then◌else◌}
use Rattle.std.specs.List.{list_any, position}
use Rattle.profile.specs.Outcome.{bind}
use Rattle.profile.specs.ErrorNumber.{ErrorNumber}
use Rattle.profile.specs.ErrorNumber.TheVariants.{ModuleNotFound}
use Rattle.instances_table.specs.declared.parts.Handler.{Handler}
use Rattle.instances_table.specs.declared.parts.Place.{Place}
use Rattle.instances_table.specs.declared.parts.Information.{Information}
use Rattle.instances_table.specs.declared.parts.ModuleInfo.{ModuleInfo}
use Rattle.instances_table.specs.declared.parts.InstanceInfo.{InstanceInfo}
use Rattle.instances_table.specs.ModuleArea.{is_in_module_area}
use Rattle.instances_table.specs.Modules.{Instance, Module, has_title, has_name, has_slot, has_instance}
use Rattle.instances_table.specs.Names.{FullName, full_name_parts}

abbrev pub module_at : List Module → ℕ → Result Module ErrorNumber
module_at modules number = ok_or (slice_get modules number) ModuleNotFound

abbrev pub instance_at : Module → ℕ → Result Instance ErrorNumber
instance_at m number = ok_or (slice_get m.instances number) ModuleNotFound

abbrev pub number_of_title : List ℕ → List Module → Option ℕ
number_of_title title modules = position (has_title title) modules

-- A title alone names the preferred instance.
abbrev pub is_meant : Option (List ℕ) → ℕ → Instance → Bool
is_meant None preferred i = has_slot preferred i
is_meant (Some name) preferred i = has_name name i

abbrev pub instance_meant : Option (List ℕ) → Module → Option ℕ
instance_meant name m = position (is_meant name m.preferred) m.instances

abbrev pub instance_in : Option (List ℕ) → Option Module → Option ℕ
instance_in name None = None
instance_in name (Some m) = instance_meant name m

unfoldable pub place_meant : FullName → List Module → Result Place ErrorNumber
place_meant full modules =
    bind (ok_or (number_of_title full.title modules) ModuleNotFound) (λ number.
    bind (ok_or (instance_in full.name (slice_get modules number)) ModuleNotFound) (λ i.
    Ok (record { number = number; instance = i })))

-- OS_Module 18, as far as the table knows it
abbrev pub looked_up : List Module → List ℕ → Result Place ErrorNumber
looked_up modules full = place_meant (full_name_parts full) modules

-- The next instance of the module, or instance 0 of the next number, there or not.
abbrev pub place_behind : Module → ℕ → ℕ → Place
place_behind m number i =
    if nat_lt (i + 1) (length m.instances) then record { number = number; instance = i + 1 }
    else record { number = number + 1; instance = 0 }

-- the slot of an instance of a module
abbrev pub slot_in : ℕ → Option Module → Option ℕ
slot_in i None = None
slot_in i (Some m) = option_map (λ (x : Instance). x.slot) (slice_get m.instances i)

abbrev pub slot_at : List Module → Place → Result ℕ ErrorNumber
slot_at modules place = ok_or (slot_in place.instance (slice_get modules place.number)) ModuleNotFound

-- OS_Module 12
unfoldable pub information : List Module → ℕ → ℕ → Result Information ErrorNumber
information modules number i =
    bind (module_at modules number) (λ m.
    bind (instance_at m i) (λ instance.
    Ok (record { next = place_behind m number i; image = m.image.at; slot = instance.slot })))

-- the module whose chunk has the number of a SWI, the oldest first; without a handler a module has
-- no SWIs
abbrev pub has_call : ℕ → Module → Bool
has_call call m = m.header.chunk == call - call % 64 && not (m.header.handler == 0)

abbrev pub number_of_call : ℕ → List Module → Option ℕ
number_of_call call modules = position (has_call call) modules

-- where a SWI is handled: at an offset in the module's image, and for its preferred instance
abbrev pub handled_in : Module → Handler
handled_in m = record { at = (m.image.at + m.header.handler) % 2 ^ 32; slot = m.preferred }

abbrev pub handled_at : List Module → Option ℕ → Option Handler
handled_at modules None = None
handled_at modules (Some number) = option_map handled_in (slice_get modules number)

abbrev pub handler_of : ℕ → List Module → Option Handler
handler_of call modules = handled_at modules (number_of_call call modules)

-- where the instance of a slot is
abbrev pub slot_within : ℕ → Option Module → Option ℕ
slot_within slot None = None
slot_within slot (Some m) = position (has_slot slot) m.instances

abbrev pub instance_place_in : ℕ → List Module → Option ℕ → Option Place
instance_place_in slot modules None = None
instance_place_in slot modules (Some number) =
    option_map (λ (i : ℕ). let p : Place = record { number = number; instance = i } in p)
    (slot_within slot (slice_get modules number))

abbrev pub place_of_slot : ℕ → List Module → Option Place
place_of_slot slot modules = instance_place_in slot modules (position (has_instance slot) modules)

-- what the table answers about a module, and about an instance
abbrev pub shown_of_module : Module → ModuleInfo
shown_of_module m = record {
  title = m.header.title;
  image = m.image.at;
  len = m.image.len;
  start = m.header.start;
  chunk = m.header.chunk;
  handler = m.header.handler;
}

abbrev pub shown_of_instance : Module → Instance → InstanceInfo
shown_of_instance m i = record {
  name = record { items = i.name };
  slot = i.slot;
  preferred = i.slot == m.preferred;
}

abbrev pub shown_of_place : ℕ → Option Module → Option InstanceInfo
shown_of_place i None = None
shown_of_place i (Some m) = option_map (shown_of_instance m) (slice_get m.instances i)

-- how many instances a module has, none where there is no module
abbrev pub instance_count : Option Module → ℕ
instance_count None = 0
instance_count (Some m) = length m.instances

-- the module whose image stands at an address of the module area
abbrev pub is_image_at : ℕ → Module → Bool
is_image_at at m = is_in_module_area m.image.at && m.image.at == at

abbrev pub has_image_at : ℕ → List Module → Bool
has_image_at at modules = list_any (is_image_at at) modules
