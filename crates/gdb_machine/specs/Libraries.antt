-- The modules that are there, as GDB's list of libraries ("Library List Format" in GDB's manual): a line
-- for each, oldest first, with the name of the file whose symbols are its, `Title.elf`, and where its image
-- begins. GDB takes a library of the same name for the one that it knows, wherever it is now, and looks for a
-- file by the last part of its name: so a folder before it says where the image begins.
use Rattle.std.specs.Prelude.{ℕ, ◌++◌, List, codes}
use Rattle.std.specs.List.{flat_map}
use Rattle.profile.specs.Digits.{hex_word}
use Rattle.instances_table.specs.Lookup.{shown_of_module}
use Rattle.instances_table.specs.Modules.{Module}
use Rattle.instances_table.specs.declared.parts.ModuleInfo.{ModuleInfo}
use Rattle.gdb_packets.specs.declared.requests.ByteRange.{ByteRange}
use Rattle.gdb_machine.specs.Description.{part_of}
use Rattle.gdb_machine.specs.Escape.{escaped_bytes}

-- `<library name="01800014/Counter`
unfoldable pub library_opening : ℕ → List ℕ → List ℕ
library_opening image title =
    (codes "<library name=\"" ++ (hex_word image ++ codes "/")) ++ escaped_bytes title

-- `.elf"><segment address="0x01800014"/></library>`
unfoldable pub library_ending : ℕ → List ℕ
library_ending image = codes ".elf\"><segment address=\"0x" ++ (hex_word image ++ codes "\"/></library>\n")

-- `<library name="01800014/Counter.elf"><segment address="0x01800014"/></library>`
abbrev pub library_line : ModuleInfo → List ℕ
library_line m = library_opening m.image m.title.items ++ library_ending m.image

abbrev pub module_library : Module → List ℕ
module_library m = library_line (shown_of_module m)

-- the lines of all, none where there is no module
abbrev pub library_lines : List Module → List ℕ
library_lines modules = flat_map module_library modules

unfoldable pub libraries_text : List Module → List ℕ
libraries_text modules =
    codes "<library-list version=\"1.0\">\n" ++ (library_lines modules ++ codes "</library-list>\n")

-- bytes of the list
abbrev pub libraries_part : List Module → ByteRange → List ℕ
libraries_part modules range = part_of (libraries_text modules) range
