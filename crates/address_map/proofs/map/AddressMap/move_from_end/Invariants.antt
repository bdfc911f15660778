use Rattle.std.proofs.Common.{◌≡◌, ◌≤◌, ◌+◌, ◌-◌, ℕ}
use Rattle.address_map.specs.Bytes.{with_moved_at}
use Rattle.address_map.specs.Memory.{byte_at, layout, class_of}
use Rattle.address_map.proofs.map.AddressMap.move_from_end.Given as goal

abbrev pub invariant-loop-left : goal.invariant-loop-left
invariant-loop-left l = record {
  within : l.left ≤ l.len;
  bytes : (a : ℕ) → byte_at l.self a ≡ with_moved_at (byte_at l.fn.self) (l.from + l.left) (l.to + l.left) (l.len - l.left) a;
  layout : layout l.self ≡ layout l.fn.self;
  marks : class_of l.self ≡ class_of l.fn.self;
}

abbrev pub decreases-loop-left : goal.decreases-loop-left
decreases-loop-left l = l.left
