use Rattle.std.proofs.Common.{◌≡◌, ◌*◌}
use Rattle.raw_store.specs.Region.{bytes_after_copy}
use Rattle.raw_store.proofs.lanes.copy_lanes_down.Given as goal

-- the lanes so far are copied
abbrev pub invariant-loop-lane : goal.invariant-loop-lane
invariant-loop-lane l = l.bytes ≡ bytes_after_copy l.initial.bytes l.from l.to (32 * l.lane)
