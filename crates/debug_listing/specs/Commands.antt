-- Commands by their names (RISC OS 3 Programmer's Reference Manual, volume 1, "*Commands and the CLI" and
-- "Modules", "Help and command keyword table"): of the oldest module that has one of that name, in any case of
-- its letters. An entry without code only has a text that helps; bits 31 and 30 of the word behind the code mark
-- a command of a filing system, and one for Configure and Status: neither is a command by its name alone.
use Rattle.std.specs.Prelude.{ℕ, Bool, false, not, ◌^◌, ◌==◌, ◌&&◌, nat_lt, List, Option, None, Some, Result, Ok, Err, if◌then◌else◌}
use Rattle.profile.specs.Firsts.{first_of}
use Rattle.profile.specs.ErrorNumber.{ErrorNumber}
use Rattle.address_map.specs.Bytes.{Bytes}
use Rattle.command_shell_lines.specs.Requests.{is_same_word}
use Rattle.debug_labels.specs.Reading.{slot_meant}
use Rattle.instances_table.specs.Lookup.{shown_of_module}
use Rattle.instances_table.specs.Modules.{Module}
use Rattle.instances_table.specs.declared.parts.ModuleInfo.{ModuleInfo}
use Rattle.instances_table.specs.plans.Code.{private_of}
use Rattle.debug_labels.specs.Strings.{ends, text_at}
use Rattle.debug_labels.specs.TextEnd.TheVariants as end
use Rattle.debug_listing.specs.Tables.{CommandList, commands_of}
use Rattle.debug_listing.specs.declared.commands.CommandSearch.{CommandSearch}
use Rattle.debug_listing.specs.declared.commands.CommandSearch.TheVariants.{Outside, Found}
use Rattle.debug_listing.specs.declared.tables.CommandEntry.{CommandEntry}

-- whether a text is a name
abbrev pub is_text : List ℕ → Option (List ℕ) → Bool
is_text name (Some text) = is_same_word text name
is_text name None = false

abbrev pub is_command_name : Bytes → List ℕ → ℕ → Bool
is_command_name b name at = is_text name (text_at (ends end.Zero) 255 b at)

abbrev pub is_command : Bytes → List ℕ → CommandEntry → Bool
is_command b name e = not (e.code == 0) && (nat_lt e.limits (2 ^ 30) && is_command_name b name e.name)

abbrev pub command_if : Bytes → List ℕ → CommandEntry → Option CommandEntry
command_if b name e = if is_command b name e then Some e else None

-- A command of a module, for the preferred instance, which the title means.
abbrev pub found_for : ModuleInfo → CommandEntry → Result ℕ ErrorNumber → Option CommandSearch
found_for m e (Ok slot) = Some (Found (record { entry = e; image = m.image; len = m.len; word = private_of slot }))
found_for m e (Err error) = None

abbrev pub found_with : List Module → ModuleInfo → CommandEntry → Option CommandSearch
found_with modules m e = found_for m e (slot_meant modules m.title.items)

-- by the first command of that name in a table; a table that leads outside its image may have had it
abbrev pub found_by : List Module → ModuleInfo → Bool → Option CommandEntry → Option CommandSearch
found_by modules m is_whole (Some e) = found_with modules m e
found_by modules m is_whole None = if is_whole then None else Some Outside

abbrev pub command_found_among : Bytes → List Module → List ℕ → ModuleInfo → CommandList → Option CommandSearch
command_found_among b modules name m t = found_by modules m t.is_whole (first_of (command_if b name) t.entries)

abbrev pub found_in : Bytes → List Module → List ℕ → ModuleInfo → Option CommandSearch
found_in b modules name m = command_found_among b modules name m (commands_of b m)

-- of all modules, the oldest first
abbrev pub command_found : Bytes → List Module → List ℕ → Option CommandSearch
command_found b modules name = first_of (λ m. found_in b modules name (shown_of_module m)) modules
