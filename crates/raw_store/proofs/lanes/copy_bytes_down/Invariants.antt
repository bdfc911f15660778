use Rattle.std.proofs.Common.{◌≡◌}
use Rattle.raw_store.specs.Region.{bytes_after_copy}
use Rattle.raw_store.proofs.lanes.copy_bytes_down.Given as goal

-- the bytes so far are copied
abbrev pub invariant-loop-place : goal.invariant-loop-place
invariant-loop-place l = l.bytes ≡ bytes_after_copy l.initial.bytes l.from l.to l.place
