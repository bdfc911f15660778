use Rattle.std.proofs.Common.{◌+◌}
use Rattle.address_map.specs.Memory.{bytes_of}
use Rattle.store_copies.specs.Words.{IsSummary, word_changes_below, is_shown_elsewhere}
use Rattle.store_copies.proofs.changes.WordChanges.add_words.Given as goal

-- the words that were passed
abbrev pub invariant-loop-index : goal.invariant-loop-index
invariant-loop-index l = IsSummary l.self (word_changes_below (is_shown_elsewhere l.has_error) (bytes_of l.before) (bytes_of l.after) (l.first + l.index))
