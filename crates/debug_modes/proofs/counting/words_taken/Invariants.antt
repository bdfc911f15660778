use Rattle.std.proofs.Common.{◌≡◌, ◌≤◌, ◌+◌, ◌-◌}
use Rattle.debug_modes.specs.Counting.{words_taken}
use Rattle.debug_modes.proofs.counting.words_taken.Given as goal

-- those so far, and those of the words that are left, are all
abbrev pub invariant-loop-words : goal.invariant-loop-words
invariant-loop-words l = record {
  taken : l.taken + words_taken l.counts l.at (l.count - l._words) ≡ words_taken l.counts l.address l.count;
  few : l.taken ≤ l._words;
}
