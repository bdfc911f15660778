use Rattle.std.proofs.Common.{◌≡◌, ◌≤◌, length, take}
use Rattle.address_map.specs.Records.{without_heaps}
use Rattle.address_map.proofs.map.AddressMap.forget_heaps.Given as goal

abbrev pub invariant-loop-region : goal.invariant-loop-region
invariant-loop-region l = record {
  left : l.left.items ≡ without_heaps l.at l.len (take l.region-index l.fn.self.regions.items);
  few : length l.left.items ≤ l.region-index;
}
