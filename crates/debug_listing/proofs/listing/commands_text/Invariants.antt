use Rattle.std.proofs.Common.{◌≡◌, ◌++◌, drop}
use Rattle.std.specs.List.{flat_map}
use Rattle.address_map.specs.Memory.{bytes_of}
use Rattle.debug_listing.specs.Listing.{commands_of_module}
use Rattle.debug_listing.proofs.listing.commands_text.Given as goal

-- what stands written, and the modules that are left, is all
abbrev pub invariant-loop-number : goal.invariant-loop-number
invariant-loop-number l =
    l.text.items ++ flat_map (commands_of_module (bytes_of l.memory)) (drop l.number l.modules)
    ≡ flat_map (commands_of_module (bytes_of l.memory)) l.modules
