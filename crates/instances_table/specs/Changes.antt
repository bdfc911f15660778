-- What changes the list of modules (RISC OS 3 Programmer's Reference Manual, "OS_Module", reasons
-- 1, 4, 14, 15 and 16; the order of the refusals, the lowest slot, and who is preferred, are this
-- project's own).
use Rattle.std.specs.Prelude.{ℕ, ◌≡◌, ◌≤◌, ◌<◌, Bool, false, filter, not, length, ◌+◌, ◌==◌, ◌&&◌, nat_lt, List, [], ◌∷◌, ◌++◌, map, Option, Some, None, ok_or, slice_get, Result, Ok, Err, zero, suc, codes, if◌then◌else◌}
use Rattle.std.specs.List.{list_any}
use Rattle.profile.specs.Outcome.{bind}
use Rattle.profile.specs.ErrorNumber.{ErrorNumber}
use Rattle.profile.specs.ErrorNumber.TheVariants.{ModuleNotFound, InstanceExists, InstanceTableFull}
use Rattle.profile.specs.declared.images.module_header.header.Header.{Header}
use Rattle.instances_table.specs.declared.parts.Image.{Image}
use Rattle.instances_table.specs.declared.parts.NewInstance.{NewInstance}
use Rattle.instances_table.specs.Modules.{Instance, Module, has_title, has_name, has_slot, has_instance, changed_at}
use Rattle.instances_table.specs.Names.{full_name_parts, name_given, new_name}
use Rattle.instances_table.specs.Lookup.{number_of_title, place_meant, slot_at}

-- the lowest of `n` slots from one on that no instance has
abbrev pub is_slot_held : ℕ → List Module → Bool
is_slot_held slot modules = list_any (has_instance slot) modules

unfoldable pub lowest_free : List Module → ℕ → ℕ → Option ℕ
lowest_free modules slot zero = None
lowest_free modules slot (suc n) = if is_slot_held slot modules then lowest_free modules (slot + 1) n
    else Some slot

unfoldable pub free_slot : List Module → Option ℕ
free_slot modules = lowest_free modules 0 64

-- the modules of a title, of which there is one at most, and those of all other titles
abbrev pub modules_of_title : List ℕ → List Module → List Module
modules_of_title title modules = filter (has_title title) modules

abbrev pub titled_otherwise : List ℕ → List Module → List Module
titled_otherwise title modules = filter (λ m. not (has_title title m)) modules

-- The lowest slot for an instance of a new module of a title: those of an older module of the title
-- count as free, since that module goes first.
abbrev pub free_slot_for : List ℕ → List Module → Option ℕ
free_slot_for title modules = free_slot (titled_otherwise title modules)

-- a module with its first instance, which is preferred
abbrev pub new_module : Header → Image → ℕ → Module
new_module header image slot = record {
  header = header;
  image = image;
  instances = record { name = codes "Base"; slot = slot } ∷ [];
  preferred = slot;
}

-- A new module is the youngest. It isn't put in where one of its title is there, or its slot isn't
-- free.
abbrev pub is_new : List ℕ → ℕ → List Module → Bool
is_new title slot modules = nat_lt slot 64 && not (is_slot_held slot modules)
    && not (list_any (has_title title) modules)

unfoldable pub with_module : List Module → Header → Image → ℕ → List Module
with_module modules header image slot =
    if is_new header.title.items slot modules then modules ++ new_module header image slot ∷ [] else modules

-- A module with one instance more, the youngest.
abbrev pub with_instance : List ℕ → ℕ → Module → Module
with_instance name slot m = record m { instances = m.instances ++ record { name = name; slot = slot } ∷ [] }

-- has a module, if there is one, an instance of a name?
abbrev pub is_named : List ℕ → Option Module → Bool
is_named name None = false
is_named name (Some m) = list_any (has_name name) m.instances

-- and the instance of a slot?
abbrev pub module_has_slot : ℕ → Option Module → Bool
module_has_slot slot None = false
module_has_slot slot (Some m) = has_instance slot m

-- OS_Module 14, as far as the table knows it: which module the new instance is of, its name, and
-- its slot, which is the lowest free one.
unfoldable pub instance_room : List Module → List ℕ → Result NewInstance ErrorNumber
instance_room modules full =
    bind (name_given (full_name_parts full).name) (λ given.
    bind (new_name given) (λ name.
    bind (ok_or (number_of_title (full_name_parts full).title modules) ModuleNotFound) (λ number.
    if is_named name (slice_get modules number) then Err InstanceExists else
    bind (ok_or (free_slot modules) InstanceTableFull) (λ slot.
    Ok (record { number = number; name = record { items = name }; slot = slot })))))

-- what is so of it: the module is there, and has no instance of the name; the slot is free
pub record IsRoomFor (new : NewInstance) (modules : List Module) : Type 0 where
  pub number : new.number < length modules
  pub below : new.slot < 64
  pub free : is_slot_held new.slot modules ≡ false
  pub formed : length new.name.items ≤ 31
  pub unnamed : is_named new.name.items (slice_get modules new.number) ≡ false

-- The new instance is put in; its slot is the answer.
abbrev pub with_new_instance : NewInstance → List Module → List Module
with_new_instance new modules = changed_at new.number (with_instance new.name.items new.slot) modules

unfoldable pub modules_after_instantiate : List Module → List ℕ → Result (List Module × ℕ) ErrorNumber
modules_after_instantiate modules full = bind (instance_room modules full)
    (λ new. Ok (with_new_instance new modules, new.slot))

-- OS_Module 15: an instance gets another name, formed like a title, that no instance of the module
-- has, itself included. It is found by its slot.
abbrev pub with_name : ℕ → List ℕ → Instance → Instance
with_name slot name i = if has_slot slot i then record i { name = name } else i

abbrev pub with_names : ℕ → List ℕ → Module → Module
with_names slot name m = record m { instances = map (with_name slot name) m.instances }

abbrev pub modules_with_names : ℕ → List ℕ → List Module → List Module
modules_with_names slot name modules = map (with_names slot name) modules

unfoldable pub modules_after_rename : List Module → List ℕ → List ℕ → Result (List Module) ErrorNumber
modules_after_rename modules full new =
    bind (name_given (full_name_parts full).name) (λ old.
    bind (new_name new) (λ name.
    bind (place_meant (full_name_parts full) modules) (λ place.
    bind (slot_at modules place) (λ slot.
    if is_named name (slice_get modules place.number) then Err InstanceExists
    else Ok (modules_with_names slot name modules)))))

-- OS_Module 16: an instance becomes the preferred one.
abbrev pub with_preferred : ℕ → Module → Module
with_preferred slot m = record m { preferred = slot }

unfoldable pub preferring : List Module → List ℕ → Result (List Module) ErrorNumber
preferring modules full =
    bind (name_given (full_name_parts full).name) (λ name.
    bind (place_meant (full_name_parts full) modules) (λ place.
    bind (slot_at modules place) (λ slot.
    Ok (changed_at place.number (with_preferred slot) modules))))

-- A module without the instance of a slot: the oldest one left becomes preferred if the preferred
-- one went. With its last instance the module goes.
abbrev pub without_first_passing : {X : Type 0} → (X → Bool) → List X → List X
without_first_passing test [] = []
without_first_passing test (x ∷ xs) = if test x then xs else x ∷ without_first_passing test xs

abbrev pub still : ℕ → Module → List Instance → List Module
still slot m [] = []
still slot m (i ∷ others) = record m {
  instances = i ∷ others;
  preferred = if m.preferred == slot then i.slot else m.preferred;
} ∷ []

abbrev pub module_without : ℕ → Module → List Module
module_without slot m = still slot m (without_first_passing (has_slot slot) m.instances)

abbrev pub without_instance : ℕ → List Module → List Module
without_instance slot [] = []
without_instance slot (m ∷ ms) = if has_instance slot m then module_without slot m ++ ms
    else m ∷ without_instance slot ms

-- a module whose image is at another address
abbrev pub with_image_at : ℕ → Module → Module
with_image_at at m = record m { image = record m.image { at = at } }
