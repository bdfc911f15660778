use Rattle.std.proofs.Common.{◌≡◌, ◌+◌, ◌*◌, ◌&&◌, not, ℕ}
use Rattle.address_map.specs.Bytes.{in_range, with_zeros_at}
use Rattle.address_map.specs.Memory.{StaysInPlace, is_mapped, byte_at, free_pages, regions, class_of}
use Rattle.address_map.specs.Records.{with_plain_at}
use Rattle.address_map.proofs.map.AddressMap.unmap_pages.Given as goal

abbrev pub invariant-loop-done : goal.invariant-loop-done
invariant-loop-done l = record {
  mapping : (a : ℕ) → is_mapped l.self a ≡ (is_mapped l.fn.self a && not (in_range l.base (4096 * l.done) a));
  stays : StaysInPlace l.fn.self l.self;
  bytes : (a : ℕ) → byte_at l.self a ≡ with_zeros_at (byte_at l.fn.self) l.base (4096 * l.done) a;
  pages : free_pages l.self ≡ free_pages l.fn.self + l.done;
  regions : regions l.self ≡ regions l.fn.self;
  marks : (a : ℕ) → class_of l.self a ≡ with_plain_at (class_of l.fn.self) l.base (4096 * l.done) a;
}
