use Rattle.std.proofs.Common.{◌-◌}
use Rattle.os_heap.specs.Class.TheVariants as class
use Rattle.flex_store.proofs.Walks.{IsMarking}
use Rattle.flex_store.proofs.walk.unmark.Given as goal

abbrev pub invariant-loop-header : goal.invariant-loop-header
invariant-loop-header l = IsMarking class.Plain l.fn.map l.fn.at l.map l.header l.fn.end

abbrev pub decreases-loop-header : goal.decreases-loop-header
decreases-loop-header l = l.fn.end - l.header
