use Rattle.std.proofs.Common.{◌-◌}
use Rattle.address_map.specs.Bytes.{AreMapped}
use Rattle.address_map.specs.Memory.{is_mapped}
use Rattle.address_map.proofs.map.AddressMap.maps.Given as goal

abbrev pub invariant-loop-done : goal.invariant-loop-done
invariant-loop-done l = AreMapped (is_mapped l.self) l.addr l.done

abbrev pub decreases-loop-done : goal.decreases-loop-done
decreases-loop-done l = l.len - l.done
