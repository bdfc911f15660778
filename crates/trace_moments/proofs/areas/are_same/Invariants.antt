use Rattle.std.proofs.Common.{◌≡◌, take}
use Rattle.trace_moments.proofs.areas.are_same.Given as goal

-- the first of both are the same
abbrev pub invariant-loop-index : goal.invariant-loop-index
invariant-loop-index l = take l.index l.old ≡ take l.index l.new
