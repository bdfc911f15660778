use Rattle.std.proofs.Common.{arith}
use Rattle.address_map.proofs.Spans.{range_fits, span_below, mapped_more}
use Rattle.address_map.proofs.map.AddressMap.maps.Goals as goal

pub overflow_add-addr : goal.overflow_add-addr
overflow_add-addr c = omega (arith, range_fits c.args.self.now c.args.addr c.loop-done.done c.loop-done.invariant (omega arith))

pub overflow_add-done : goal.overflow_add-done
overflow_add-done c = omega (arith, span_below c.args.self.now _ _ _ c.in-Some.ensures.1)

pub loop-done-preserved : goal.loop-done-preserved
loop-done-preserved c = mapped_more c.args.self.now c.args.addr c.loop-done.done _ _ c.loop-done.invariant c.in-Some.ensures.1
