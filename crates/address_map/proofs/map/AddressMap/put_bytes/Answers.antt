use Rattle.std.proofs.Common.{length, arith}
use Rattle.address_map.specs.Memory.{byte_at}
use Rattle.address_map.proofs.Spans.{range_below, with_bytes-more}
use Rattle.address_map.proofs.map.AddressMap.put_bytes.Goals as goal

pub overflow_cast-done : goal.overflow_cast-done
overflow_cast-done c = omega (arith, range_below c.args.self.now c.args.addr (length c.args.bytes.now) c.loop-done.done c.requires (omega arith))

pub overflow_add-addr : goal.overflow_add-addr
overflow_add-addr c = omega (arith, range_below c.args.self.now c.args.addr (length c.args.bytes.now) c.loop-done.done c.requires (omega arith))

pub loop-done-preserved : goal.loop-done-preserved
loop-done-preserved c =
    let span = rw c.unwrap-span.ensures at c.span.ensures in
    record {
      within = omega arith;
      bytes = λ a. rw (c.write_span.ensures.bytes a, span.0, c.loop-done.invariant.bytes a)
          (with_bytes-more (byte_at c.args.self.now) c.args.addr c.args.bytes.now c.loop-done.done c.min-end.result a (omega arith) (omega arith));
      layout = cc;
      marks = cc;
    }
