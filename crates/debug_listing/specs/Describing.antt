-- What a loaded module says of itself, as HELP shows it (RISC OS 3 Programmer's Reference Manual, volume 1, "Modules",
-- "Module header format": the word at &14 of the module is the offset of a text that helps, 0 where there is none, and
-- that at &1C the first SWI of its chunk, 0 where it has none): its title, that text, the chunk, and its commands. That
-- a text of more than 255 bytes counts as none, and how the lines read, is this project's own.
use Rattle.std.specs.Prelude.{ℕ, List, ◌++◌, map, codes, Option, Some, None, if◌then◌else◌}
use Rattle.std.specs.List.{flat_map}
use Rattle.std.specs.Option.{option_and_then}
use Rattle.profile.specs.Digits.{hex_number}
use Rattle.profile.specs.Firsts.{first_of}
use Rattle.address_map.specs.Bytes.{Bytes}
use Rattle.debug_tables.specs.MachineState.{MachineState}
use Rattle.command_shell_lines.specs.Requests.{is_same_word}
use Rattle.command_shell_lines.specs.debug_words.Texts.{text_behind}
use Rattle.instances_table.specs.Lookup.{shown_of_module}
use Rattle.instances_table.specs.Modules.{Module}
use Rattle.instances_table.specs.declared.parts.ModuleInfo.{ModuleInfo}
use Rattle.debug_listing.specs.Listing.{command_line, table_end_text}
use Rattle.debug_listing.specs.ImageParts.{shown_character, text_of_image}
use Rattle.debug_listing.specs.Tables.{CommandList, commands_of, header_word}

-- the oldest module of a title, in any case of its letters
abbrev pub if_titled : List ℕ → ModuleInfo → Option ModuleInfo
if_titled title m = if is_same_word m.title.items title then Some m else None

abbrev pub module_of_title : List Module → List ℕ → Option ModuleInfo
module_of_title modules title = first_of (λ m. if_titled title (shown_of_module m)) modules

-- the one that a line `HELP Title` means
abbrev pub module_meant : MachineState → List ℕ → Option ModuleInfo
module_meant s line = option_and_then (module_of_title s.tables.modules) (text_behind (codes "HELP ") line)

-- the text that helps
abbrev pub help_text : Bytes → ModuleInfo → List ℕ
help_text b m = text_of_image b m.image m.len (header_word b m 20)

abbrev pub entries_shown : Bytes → CommandList → List ℕ
entries_shown b t = flat_map (command_line b) t.entries ++ table_end_text t.is_whole

-- `module Pots`, `help "Pots 1.00 (30 Nov 2026)"`, `chunk &58CC0`
abbrev pub header_text : Bytes → ModuleInfo → List ℕ
header_text b m = codes "module " ++ (map shown_character m.title.items
    ++ (codes "\nhelp \"" ++ (map shown_character (help_text b m)
    ++ (codes "\"\nchunk &" ++ (hex_number m.chunk ++ codes "\n")))))

-- these, and the commands
abbrev pub module_described : Bytes → ModuleInfo → List ℕ
module_described b m = header_text b m ++ entries_shown b (commands_of b m)
