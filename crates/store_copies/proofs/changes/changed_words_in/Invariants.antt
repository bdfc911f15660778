use Rattle.std.proofs.Common.{◌*◌, ◌-◌, ◌≤◌}
use Rattle.address_map.specs.Memory.{bytes_of}
use Rattle.store_copies.specs.Words.{IsSummary, word_changes_below, is_shown_elsewhere}
use Rattle.store_copies.proofs.changes.changed_words_in.Given as goal

-- the words of the pages that were passed
abbrev pub invariant-loop-page : goal.invariant-loop-page
invariant-loop-page l = record {
  limit : l.page ≤ 16384;
  summary : IsSummary l.changes (word_changes_below (is_shown_elsewhere l.has_error) (bytes_of l.before) (bytes_of l.after) (1024 * l.page));
}

abbrev pub decreases-loop-page : goal.decreases-loop-page
decreases-loop-page l = 16384 - l.page
