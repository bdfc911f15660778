use Rattle.std.proofs.Common.{◌≡◌, ◌≤◌, ◌-◌, ℕ, length, take}
use Rattle.address_map.specs.Bytes.{with_bytes_at}
use Rattle.address_map.specs.Memory.{byte_at, layout, class_of}
use Rattle.address_map.proofs.map.AddressMap.put_bytes.Given as goal

abbrev pub invariant-loop-done : goal.invariant-loop-done
invariant-loop-done l = record {
  within : l.done ≤ length l.bytes;
  bytes : (a : ℕ) → byte_at l.self a ≡ with_bytes_at (byte_at l.fn.self) l.addr (take l.done l.bytes) a;
  layout : layout l.self ≡ layout l.fn.self;
  marks : class_of l.self ≡ class_of l.fn.self;
}

abbrev pub decreases-loop-done : goal.decreases-loop-done
decreases-loop-done l = length l.bytes - l.done
