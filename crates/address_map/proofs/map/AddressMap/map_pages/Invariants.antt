use Rattle.std.proofs.Common.{◌≡◌, ◌+◌, ◌*◌, ◌||◌, ℕ}
use Rattle.address_map.specs.Bytes.{in_range}
use Rattle.address_map.specs.Memory.{StaysInPlace, is_mapped, byte_at, free_pages, regions, class_of}
use Rattle.address_map.proofs.map.AddressMap.map_pages.Given as goal

abbrev pub invariant-loop-done : goal.invariant-loop-done
invariant-loop-done l = record {
  mapping : (a : ℕ) → is_mapped l.self a ≡ (in_range l.base (4096 * l.done) a || is_mapped l.fn.self a);
  stays : StaysInPlace l.fn.self l.self;
  bytes : (a : ℕ) → byte_at l.self a ≡ byte_at l.fn.self a;
  pages : free_pages l.self + l.done ≡ free_pages l.fn.self;
  regions : regions l.self ≡ regions l.fn.self;
  marks : (a : ℕ) → class_of l.self a ≡ class_of l.fn.self a;
}
