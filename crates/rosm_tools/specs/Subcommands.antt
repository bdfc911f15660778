-- The tools by the words that name them.
use Rattle.std.specs.Prelude.{ℕ, List, Option, Some, None, codes, if◌then◌else◌}
use Rattle.std.specs.Str.{bytes_eq}
use Rattle.rosm_tools.specs.declared.subcommands.Subcommand.{Subcommand}
use Rattle.rosm_tools.specs.declared.subcommands.Subcommand.TheVariants as subcommand

abbrev pub subcommand_named : List ℕ → Option Subcommand
subcommand_named word =
    if bytes_eq word (codes "debug") then Some subcommand.Debug
    else if bytes_eq word (codes "gdb") then Some subcommand.Gdb
    else None
