use Rattle.std.proofs.Common.{◌≡◌, ◌+◌, ◌-◌}
use Rattle.raw_store.specs.Region.{bytes_after_copy}
use Rattle.raw_store.proofs.lanes.copy_bytes_up.Given as goal

-- the bytes from this one on are copied
abbrev pub invariant-loop-place : goal.invariant-loop-place
invariant-loop-place l = l.bytes ≡ bytes_after_copy l.initial.bytes (l.from + l.place) (l.to + l.place) (l.len - l.place)
