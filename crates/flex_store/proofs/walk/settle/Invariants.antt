use Rattle.std.proofs.Common.{◌-◌}
use Rattle.flex_store.proofs.Walks.{IsSettling}
use Rattle.flex_store.proofs.walk.settle.Given as goal

abbrev pub invariant-loop-header : goal.invariant-loop-header
invariant-loop-header l = IsSettling l.fn.shifts l.fn.map l.fn.at l.map l.header l.fn.end

abbrev pub decreases-loop-header : goal.decreases-loop-header
decreases-loop-header l = l.fn.end - l.header
