-- Which instance a module's title alone names, when an instance is removed (RISC OS 3 Programmer's
-- Reference Manual, "OS_Module", reasons 4 and 18; that the oldest one left is preferred then is
-- this project's own).
use Rattle.std.specs.Prelude.{ℕ, Bool, not, ◌≡◌, ◌≢◌, ◌==◌, true, false, List, Option, Some, None}
use Rattle.std.specs.List.{find}
use Rattle.instances_table.specs.Modules.{AreModules, Instance, Module, has_instance, has_title}
use Rattle.instances_table.specs.Changes.{without_instance}

-- is an instance another one than that of a slot?
abbrev pub is_other_instance : ℕ → Instance → Bool
is_other_instance slot i = not (i.slot == slot)

-- the oldest instance of a module, but for that of a slot
abbrev pub oldest_other : ℕ → Module → Option Instance
oldest_other slot m = find (is_other_instance slot) m.instances

-- the module of a title
abbrev pub module_titled : List ℕ → List Module → Option Module
module_titled title modules = find (has_title title) modules

-- The instance of a slot went from a module, of which `n` is left, if anything is: its title names
-- another instance only where it named that one.
pub record IsPreferredThen (slot : ℕ) (m : Module) (oldest : Instance) (n : Module) : Type 0 where
  pub still : m.preferred ≢ slot → n.preferred ≡ m.preferred
  pub next : m.preferred ≡ slot → n.preferred ≡ oldest.slot

abbrev pub IsLeftOf : ℕ → Module → Option Instance → Option Module → Type 0
IsLeftOf slot m None n = n ≡ None
IsLeftOf slot m (Some oldest) None = ⊥
IsLeftOf slot m (Some oldest) (Some n) = IsPreferredThen slot m oldest n

-- The module of each title, as it is after the removal of the instance of any slot.
pub record IsRemovedFrom (slot : ℕ) (m : Module) (n : Option Module) : Type 0 where
  pub own : has_instance slot m ≡ true → IsLeftOf slot m (oldest_other slot m) n
  pub other : has_instance slot m ≡ false → n ≡ Some m

abbrev pub RemovalsPreferOldest : Type 0
RemovalsPreferOldest = (modules : List Module) (title : List ℕ) (slot : ℕ) (m : Module) → AreModules modules
    → module_titled title modules ≡ Some m → IsRemovedFrom slot m
    (module_titled title (without_instance slot modules))
