use Rattle.std.proofs.Common.{◌-◌, ◌≡◌, ◌≤◌, ◌+◌}
use Rattle.raw_store.specs.Region.{bytes_after_growth}
use Rattle.raw_store.proofs.store.append_zeros.Given as goal

-- zeros up to `at`, and room after them
abbrev pub invariant-loop-at : goal.invariant-loop-at
invariant-loop-at l = (l.bytes.at ≡ l.fn.bytes.at) × (l.bytes.items ≡ bytes_after_growth l.fn.bytes.items l.at) × (l.bytes.spare + l.at ≡ l.fn.bytes.spare + l.first)
    × (l.first ≤ l.at) × (l.at ≤ l.len)

abbrev pub decreases-loop-at : goal.decreases-loop-at
decreases-loop-at l = l.len - l.at
