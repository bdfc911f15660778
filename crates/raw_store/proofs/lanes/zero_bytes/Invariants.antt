use Rattle.std.proofs.Common.{◌≡◌, ◌-◌}
use Rattle.raw_store.specs.Region.{bytes_after_zero}
use Rattle.raw_store.proofs.lanes.zero_bytes.Given as goal

-- the bytes from the first to this one are zero
abbrev pub invariant-loop-place : goal.invariant-loop-place
invariant-loop-place l = l.bytes ≡ bytes_after_zero l.initial.bytes l.first (l.place - l.first)
