use Rattle.std.proofs.Common.{◌+◌, ◌*◌}
use Rattle.address_map.specs.Memory.{bytes_of}
use Rattle.store_copies.specs.Words.{IsSummary, word_changes_below, is_shown_elsewhere}
use Rattle.store_copies.proofs.changes.WordChanges.add_lanes.Given as goal

-- the words of the lanes that were passed
abbrev pub invariant-loop-lane : goal.invariant-loop-lane
invariant-loop-lane l = IsSummary l.self (word_changes_below (is_shown_elsewhere l.has_error) (bytes_of l.before) (bytes_of l.after) (1024 * l.page + 16 * l.lane))
