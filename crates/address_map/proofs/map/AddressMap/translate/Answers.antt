use Rattle.std.proofs.Common.{sym, arith}
use Rattle.address_map.proofs.Loads.{place_past}
use Rattle.address_map.proofs.map.AddressMap.translate.Goals as goal

pub returns-then-addr-ge-ADDRESS_LIMIT : goal.returns-then-addr-ge-ADDRESS_LIMIT
returns-then-addr-ge-ADDRESS_LIMIT c = sym (place_past c.args.self.now c.args.addr (omega arith))
