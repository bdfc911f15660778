-- Full names: a module's title, and after the first `%` an instance's name (RISC OS 3 Programmer's
-- Reference Manual, "Modules", "Module instantiation"). That an instance's name is formed like a
-- title is this project's own.
use Rattle.std.specs.Prelude.{ℕ, Bool, ◌+◌, ◌==◌, ◌&&◌, nat_le, List, length, take, drop, Option, Some, None, Result, Ok, Err, if◌then◌else◌}
use Rattle.std.specs.List.{position, list_all}
use Rattle.profile.specs.ErrorNumber.{ErrorNumber}
use Rattle.profile.specs.ErrorNumber.TheVariants.{BadString}
use Rattle.profile.specs.images.module_header.Title.{is_title_byte}

-- no name stands after a title alone
pub record FullName : Type 0 where
  pub title : List ℕ
  pub name : Option (List ℕ)

abbrev pub is_percent : ℕ → Bool
is_percent byte = byte == 37

abbrev pub parted_at : List ℕ → Option ℕ → FullName
parted_at full None = record { title = full; name = None }
parted_at full (Some place) = record { title = take place full; name = Some (drop (place + 1) full) }

abbrev pub full_name_parts : List ℕ → FullName
full_name_parts full = parted_at full (position is_percent full)

-- 1 to 31 printing characters other than the space and `%`
abbrev pub is_instance_name : List ℕ → Bool
is_instance_name name = nat_le 1 (length name) && nat_le (length name) 31 && list_all is_title_byte name

-- the parts of a name that must be a full one, and the name of a new instance
abbrev pub name_given : Option (List ℕ) → Result (List ℕ) ErrorNumber
name_given None = Err BadString
name_given (Some name) = Ok name

abbrev pub new_name : List ℕ → Result (List ℕ) ErrorNumber
new_name name = if is_instance_name name then Ok name else Err BadString
