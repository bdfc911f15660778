use Rattle.std.proofs.Common.{◌≡◌, drop}
use Rattle.address_map.specs.Memory.{bytes_of}
use Rattle.profile.specs.Firsts.{first_of}
use Rattle.debug_listing.specs.Commands.{command_if}
use Rattle.debug_listing.proofs.commands.command_named.Given as goal

-- none of the entries that were passed is the command's
abbrev pub invariant-loop-entry : goal.invariant-loop-entry
invariant-loop-entry l =
    first_of (command_if (bytes_of l.memory) l.name) (drop l.entry-index l.entries)
    ≡ first_of (command_if (bytes_of l.memory) l.name) l.entries
