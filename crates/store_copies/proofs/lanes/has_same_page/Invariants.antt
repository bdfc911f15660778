use Rattle.std.proofs.Common.{◌*◌}
use Rattle.store_copies.specs.Words.{AreSameBytes}
use Rattle.store_copies.proofs.lanes.has_same_page.Given as goal

-- the lanes of the rows that were passed
abbrev pub invariant-loop-row : goal.invariant-loop-row
invariant-loop-row l = AreSameBytes l.old l.new 0 (256 * l.row)
