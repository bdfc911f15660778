-- The commands of loaded modules, as COMMANDS lists them (RISC OS 3 Programmer's Reference Manual, volume 1,
-- "Modules", "Help and command keyword table"): of each module that has some, the oldest first, its title, and
-- below it its commands in the order of its table. Byte 0 of the word behind the code is how many words a command
-- wants at least, byte 2 how many it may have; bit 31 marks a command of a filing system, bit 30 one for Configure
-- and Status; an entry without code only has a text that helps. How a line reads is this project's own.
use Rattle.std.specs.Prelude.{ℕ, Bool, ◌%◌, ◌/◌, ◌^◌, ◌==◌, nat_le, List, [], ◌∷◌, ◌++◌, length, map, codes, Option, Some, None, if◌then◌else◌}
use Rattle.std.specs.Fmt.{decimal}
use Rattle.std.specs.List.{flat_map}
use Rattle.address_map.specs.Bytes.{Bytes}
use Rattle.debug_tables.specs.MachineState.{MachineState}
use Rattle.instances_table.specs.Lookup.{shown_of_module}
use Rattle.instances_table.specs.Modules.{Module}
use Rattle.instances_table.specs.declared.parts.ModuleInfo.{ModuleInfo}
use Rattle.debug_labels.specs.Strings.{ends, text_at}
use Rattle.debug_labels.specs.TextEnd.TheVariants as end
use Rattle.debug_listing.specs.ImageParts.{shown_character}
use Rattle.debug_listing.specs.Tables.{commands_of}
use Rattle.debug_listing.specs.declared.tables.CommandEntry.{CommandEntry}

-- `2 to 2 words`
abbrev pub command_words_text : ℕ → List ℕ
command_words_text limits =
    decimal (limits % 256) ++ (codes " to " ++ (decimal (limits / 65536 % 256) ++ codes " words"))

abbrev pub command_use_text : CommandEntry → List ℕ
command_use_text e =
    if e.code == 0 then codes "has help only" else (
    if nat_le (2 ^ 31) e.limits then codes "of a filing system" else (
    if nat_le (2 ^ 30) e.limits then codes "for Configure and Status" else command_words_text e.limits))

-- a text up to a zero byte, as characters
abbrev pub shown_if : Option (List ℕ) → List ℕ
shown_if None = []
shown_if (Some text) = map shown_character text

abbrev pub text_shown_at : Bytes → ℕ → List ℕ
text_shown_at b at = shown_if (text_at (ends end.Zero) 255 b at)

-- `  PotSet 2 to 2 words`
abbrev pub command_line : Bytes → CommandEntry → List ℕ
command_line b e =
    codes "  " ++ (text_shown_at b e.name ++ (codes " " ++ (command_use_text e ++ codes "\n")))

abbrev pub table_end_text : Bool → List ℕ
table_end_text is_whole = if is_whole then [] else codes "  the table leads outside its image\n"

-- below a title
abbrev pub table_lines : Bytes → List ℕ → List CommandEntry → Bool → List ℕ
table_lines b title entries is_whole = map shown_character title
    ++ (codes "\n" ++ (flat_map (command_line b) entries ++ table_end_text is_whole))

-- nothing of a module without commands
abbrev pub command_table_text : Bytes → List ℕ → List CommandEntry → Bool → List ℕ
command_table_text b title [] is_whole = if is_whole then [] else table_lines b title [] is_whole
command_table_text b title (first ∷ rest) is_whole = table_lines b title (first ∷ rest) is_whole

abbrev pub commands_text_of : Bytes → ModuleInfo → List ℕ
commands_text_of b m = let t = commands_of b m in command_table_text b m.title.items t.entries t.is_whole

abbrev pub commands_of_module : Bytes → Module → List ℕ
commands_of_module b m = commands_text_of b (shown_of_module m)

-- of the module of a number, nothing where there is none
abbrev pub commands_numbered : Bytes → Option Module → List ℕ
commands_numbered b None = []
commands_numbered b (Some m) = commands_of_module b m

-- of all modules
abbrev pub commands_or_none : List ℕ → List ℕ
commands_or_none text = if length text == 0 then codes "no commands\n" else text

abbrev pub commands_text : MachineState → List ℕ
commands_text s = commands_or_none (flat_map (commands_of_module s.store.bytes) s.tables.modules)
