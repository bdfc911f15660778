use Rattle.std.proofs.Common.{◌≡◌, ◌++◌, drop}
use Rattle.std.specs.List.{flat_map}
use Rattle.address_map.specs.Memory.{bytes_of}
use Rattle.debug_listing.specs.Listing.{command_line}
use Rattle.debug_listing.proofs.listing.push_entries.Given as goal

-- what stands written, and the entries that come, is all
abbrev pub invariant-loop-entry : goal.invariant-loop-entry
invariant-loop-entry l = l.text.items ++ flat_map (command_line (bytes_of l.memory)) (drop l.entry-index l.entries)
    ≡ l.fn.text.items ++ flat_map (command_line (bytes_of l.memory)) l.entries
