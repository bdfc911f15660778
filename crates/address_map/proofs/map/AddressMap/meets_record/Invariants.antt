use Rattle.std.proofs.Common.{◌≡◌, false, take}
use Rattle.address_map.specs.Records.{meets_record}
use Rattle.address_map.proofs.map.AddressMap.meets_record.Given as goal

abbrev pub invariant-loop-region : goal.invariant-loop-region
invariant-loop-region l = meets_record (take l.region-index l.regions) l.at l.len ≡ false
