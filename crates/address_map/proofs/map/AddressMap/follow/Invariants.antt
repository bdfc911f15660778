use Rattle.std.proofs.Common.{◌≡◌, take}
use Rattle.address_map.specs.Moves.{moved_regions}
use Rattle.address_map.proofs.map.AddressMap.follow.Given as goal

abbrev pub invariant-loop-region : goal.invariant-loop-region
invariant-loop-region l = l.moved.items ≡ moved_regions l.moves (take l.region-index l.fn.self.regions.items)
