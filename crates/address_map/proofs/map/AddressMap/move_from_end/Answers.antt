use Rattle.std.proofs.Common.{◌≡◌, ◌+◌, ◌-◌, arith}
use Rattle.address_map.specs.Bytes.{with_moved_at}
use Rattle.address_map.specs.Memory.{byte_at}
use Rattle.address_map.proofs.Spans.{range_fits, span_last}
use Rattle.address_map.proofs.Moving.{moved_down}
use Rattle.address_map.proofs.map.AddressMap.move_from_end.Goals as goal

pub overflow_add-from : goal.overflow_add-from
overflow_add-from c = omega (arith, range_fits c.args.self.now c.args.from c.args.len c.requires.source (omega arith))

pub overflow_add-to : goal.overflow_add-to
overflow_add-to c = omega (arith, range_fits c.args.self.now c.args.to c.args.len c.requires.target (omega arith))

pub last-requires-clause-below : goal.last-requires-clause-below
last-requires-clause-below c =
    let source = rw c.unwrap-source.ensures at c.span_to.ensures in
    omega (arith, source.0, range_fits c.args.self.now c.args.from c.args.len c.requires.source (omega arith))

pub last-requires-in-loop-left-clause-below : goal.last-requires-in-loop-left-clause-below
last-requires-in-loop-left-clause-below c =
    let target = rw c.unwrap-target.ensures at c.span_to-in-loop-left.ensures in
    omega (arith, target.0, range_fits c.args.self.now c.args.to c.args.len c.requires.target (omega arith))

pub copy_span-requires-clause-source : goal.copy_span-requires-clause-source
copy_span-requires-clause-source c =
    let source = rw c.unwrap-source.ensures at c.span_to.ensures in
    let target = rw c.unwrap-target.ensures at c.span_to-in-loop-left.ensures in
    span_last c.loop-left.self _ _ _ c.min-now.result _ _ _ source.1 (omega (arith, source.1.some, target.1.some)) (omega arith)
    c.last.ensures.addr c.last.ensures.place c.last.ensures.len

pub copy_span-requires-clause-target : goal.copy_span-requires-clause-target
copy_span-requires-clause-target c =
    let source = rw c.unwrap-source.ensures at c.span_to.ensures in
    let target = rw c.unwrap-target.ensures at c.span_to-in-loop-left.ensures in
    span_last c.loop-left.self _ _ _ c.min-now.result _ _ _ target.1 (omega (arith, source.1.some, target.1.some)) (omega arith)
    c.last-in-loop-left.ensures.addr c.last-in-loop-left.ensures.place c.last-in-loop-left.ensures.len

pub loop-left-preserved : goal.loop-left-preserved
loop-left-preserved c =
    let source = rw c.unwrap-source.ensures at c.span_to.ensures in
    let target = rw c.unwrap-target.ensures at c.span_to-in-loop-left.ensures in
    let from : c.last.result.addr ≡ c.args.from + (c.loop-left.left - c.min-now.result) = omega (arith, source.0, c.last.ensures.addr) in
    let to : c.last-in-loop-left.result.addr ≡ c.args.to + (c.loop-left.left - c.min-now.result) = omega (arith, target.0, c.last-in-loop-left.ensures.addr) in
    let e : byte_at c.loop-left.self ≡ with_moved_at (byte_at c.args.self.now) (c.args.from + c.loop-left.left) (c.args.to + c.loop-left.left) (c.args.len - c.loop-left.left) = λ i a. c.loop-left.invariant.bytes a i in
    record {
      within = omega arith;
      bytes = λ a. rw (c.copy_span.ensures.bytes a, from, to, e)
          (moved_down (byte_at c.args.self.now) c.args.from c.args.to c.loop-left.left c.min-now.result c.args.len a c.requires.up (omega arith) (omega arith));
      layout = cc;
      marks = cc;
    }
