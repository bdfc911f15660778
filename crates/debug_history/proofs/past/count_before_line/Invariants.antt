use Rattle.std.proofs.Common.{◌≡◌, ◌≤◌, length, take}
use Rattle.debug_history.specs.Past.{acts_before_line}
use Rattle.debug_history.proofs.past.count_before_line.Given as goal

-- the acts that were passed are all of the line
abbrev pub invariant-loop-count : goal.invariant-loop-count
invariant-loop-count l = record {
  most : l.count ≤ length l.acts;
  before : acts_before_line l.line (take l.count l.acts) ≡ acts_before_line l.line l.acts;
}

abbrev pub decreases-loop-count : goal.decreases-loop-count
decreases-loop-count l = l.count
