use Rattle.std.proofs.Common.{◌≡◌, ◌+◌, ◌-◌, ◌*◌}
use Rattle.raw_store.specs.Region.{bytes_after_copy}
use Rattle.raw_store.proofs.lanes.copy_lanes_up.Given as goal

-- the lanes from this one on are copied
abbrev pub invariant-loop-lane : goal.invariant-loop-lane
invariant-loop-lane l = l.bytes ≡ bytes_after_copy l.initial.bytes (l.from + 32 * l.lane) (l.to + 32 * l.lane) (32 * (l.lanes - l.lane))
