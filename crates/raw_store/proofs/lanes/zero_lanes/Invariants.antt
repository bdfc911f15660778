use Rattle.std.proofs.Common.{◌≡◌, ◌*◌}
use Rattle.raw_store.specs.Region.{bytes_after_zero}
use Rattle.raw_store.proofs.lanes.zero_lanes.Given as goal

-- the lanes so far are zero
abbrev pub invariant-loop-lane : goal.invariant-loop-lane
invariant-loop-lane l = l.bytes ≡ bytes_after_zero l.initial.bytes 0 (32 * l.lane)
