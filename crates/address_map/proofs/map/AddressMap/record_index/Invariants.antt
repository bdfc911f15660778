use Rattle.address_map.proofs.Lengths.{IsLookedThrough}
use Rattle.address_map.proofs.map.AddressMap.record_index.Given as goal

abbrev pub invariant-loop-index : goal.invariant-loop-index
invariant-loop-index l = IsLookedThrough l.regions l.kind l.at l.index
