use Rattle.std.proofs.Common.{arith}
use Rattle.address_map.proofs.Spans.{range_below}
use Rattle.address_map.proofs.map.AddressMap.zero_bytes.Goals as goal

pub overflow_add-addr : goal.overflow_add-addr
overflow_add-addr c = omega (arith, range_below c.args.self.now c.args.addr c.args.len c.loop-done.done c.requires (omega arith))
