use Rattle.std.proofs.Common.{◌≡◌, arith}
use Rattle.address_map.specs.Bytes.{with_moved_at}
use Rattle.address_map.specs.Memory.{byte_at}
use Rattle.address_map.proofs.Spans.{range_fits}
use Rattle.address_map.proofs.Moving.{moved_up}
use Rattle.address_map.proofs.map.AddressMap.move_from_start.Goals as goal

pub overflow_add-from : goal.overflow_add-from
overflow_add-from c = omega (arith, range_fits c.args.self.now c.args.from c.args.len c.requires.source (omega arith))

pub loop-done-preserved : goal.loop-done-preserved
loop-done-preserved c =
    let source = rw c.unwrap-source.ensures at c.span.ensures in
    let target = rw c.unwrap-target.ensures at c.span-in-loop-done.ensures in
    let e : byte_at c.loop-done.self ≡ with_moved_at (byte_at c.args.self.now) c.args.from c.args.to c.loop-done.done = λ i a. c.loop-done.invariant.bytes a i in
    record {
      within = omega arith;
      bytes = λ a. rw (c.copy_span.ensures.bytes a, source.0, target.0, e)
          (moved_up (byte_at c.args.self.now) c.args.from c.args.to c.loop-done.done c.min-now.result a c.requires.down);
      layout = cc;
      marks = cc;
    }
