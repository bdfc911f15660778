-- An instance that is added to the module of a title, in a slot that is known already (RISC OS 3
-- Programmer's Reference Manual, "OS_Module", reason 14).
use Rattle.std.specs.Prelude.{ℕ, Bool, false, List, Option, Some, None, slice_get}
use Rattle.instances_table.specs.Modules.{Module, changed_at}
use Rattle.instances_table.specs.Changes.{is_named, with_instance}

-- the modules after the one of a number got an instance more, if there is one
abbrev pub added_to : Option ℕ → List ℕ → ℕ → List Module → List Module
added_to None name slot modules = modules
added_to (Some number) name slot modules = changed_at number (with_instance name slot) modules

-- has the module of a number, if there is one, an instance of a name?
abbrev pub is_named_at : List ℕ → Option ℕ → List Module → Bool
is_named_at name None modules = false
is_named_at name (Some number) modules = is_named name (slice_get modules number)
