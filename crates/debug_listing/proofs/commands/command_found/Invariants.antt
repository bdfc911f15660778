use Rattle.std.proofs.Common.{◌≡◌, drop}
use Rattle.address_map.specs.Memory.{bytes_of}
use Rattle.instances_table.specs.Lookup.{shown_of_module}
use Rattle.profile.specs.Firsts.{first_of}
use Rattle.debug_listing.specs.Commands.{command_found, found_in}
use Rattle.debug_listing.proofs.commands.command_found.Given as goal

-- none of the modules that were passed has the command
abbrev pub invariant-loop-number : goal.invariant-loop-number
invariant-loop-number l =
    first_of (λ m. found_in (bytes_of l.memory) l.modules l.name (shown_of_module m)) (drop l.number l.modules)
    ≡ command_found (bytes_of l.memory) l.modules l.name
