use Rattle.std.proofs.Common.{◌≡◌, ◌+◌, ◌*◌, ◌-◌}
use Rattle.address_map.specs.Lent.{any_owned}
use Rattle.address_map.specs.Memory.{is_owned}
use Rattle.address_map.proofs.map.AddressMap.owns_one_of.Given as goal

abbrev pub invariant-loop-index : goal.invariant-loop-index
invariant-loop-index l = any_owned (is_owned l.self) l.addr l.count ≡ any_owned (is_owned l.self) (l.addr + 4 * l.index) (l.count - l.index)
