-- The table as the list that it stands for: the names of all instances stand by slots, and each
-- module has the slots of its instances.
use Rattle.std.specs.Prelude.{ℕ, List, [], ◌∷◌, ◌++◌, ◌==◌, map, slice_index_or, if◌then◌else◌}
use Rattle.std.specs.Str.{str_eq_ignore_ascii_case}
use Rattle.arrayvec.specs.ArrayVec.{ArrayVec}
use Rattle.instances_table.specs.declared.loaded.Loaded.{Loaded}
use Rattle.instances_table.specs.Modules.{Instance, Module}

abbrev pub Names : Type 0
Names = List (ArrayVec ℕ)

abbrev pub name_of_slot : Names → ℕ → List ℕ
name_of_slot names slot = (slice_index_or names slot (record { items = [] })).items

abbrev pub instance_of : Names → ℕ → Instance
instance_of names slot = record { name = name_of_slot names slot; slot = slot }

abbrev pub module_of : Names → Loaded → Module
module_of names l = record {
  header = l.header;
  image = l.image;
  instances = map (instance_of names) l.slots.items;
  preferred = l.preferred;
}

abbrev pub modules_of : Names → List Loaded → List Module
modules_of names modules = map (module_of names) modules

-- the slots of all modules
abbrev pub all_slots : List Loaded → List ℕ
all_slots [] = []
all_slots (l ∷ ls) = l.slots.items ++ all_slots ls

-- the slots of the first module of a title, if there is one
abbrev pub titled_slots : List ℕ → List Loaded → List ℕ
titled_slots title [] = []
titled_slots title (l ∷ ls) = if str_eq_ignore_ascii_case l.header.title.items title then l.slots.items
    else titled_slots title ls

-- who is preferred among the slots that are left: the oldest, where it was the one that went
abbrev pub heir : ℕ → ℕ → List ℕ → ℕ
heir slot preferred [] = preferred
heir slot preferred (oldest ∷ slots) = if preferred == slot then oldest else preferred
