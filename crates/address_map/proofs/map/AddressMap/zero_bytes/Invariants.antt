use Rattle.std.proofs.Common.{◌≡◌, ◌≤◌, ◌-◌, ℕ}
use Rattle.address_map.specs.Bytes.{with_zeros_at}
use Rattle.address_map.specs.Memory.{byte_at, layout, class_of}
use Rattle.address_map.proofs.map.AddressMap.zero_bytes.Given as goal

abbrev pub invariant-loop-done : goal.invariant-loop-done
invariant-loop-done l = record {
  within : l.done ≤ l.len;
  bytes : (a : ℕ) → byte_at l.self a ≡ with_zeros_at (byte_at l.fn.self) l.addr l.done a;
  layout : layout l.self ≡ layout l.fn.self;
  marks : class_of l.self ≡ class_of l.fn.self;
}

abbrev pub decreases-loop-done : goal.decreases-loop-done
decreases-loop-done l = l.len - l.done
