use Rattle.std.proofs.Common.{◌-◌}
use Rattle.flex_store.proofs.Contents.{IsSought}
use Rattle.flex_store.proofs.walk.is_in_contents.Given as goal

abbrev pub invariant-loop-header : goal.invariant-loop-header
invariant-loop-header l = IsSought l.fn.map l.fn.at l.fn.place l.header l.fn.end

abbrev pub decreases-loop-header : goal.decreases-loop-header
decreases-loop-header l = l.fn.end - l.header
