use Rattle.std.proofs.Common.{◌∙◌, sym}
use Rattle.os_heap.proofs.Calls.{found_part, heap_there, free_counted, free_counted_none}
use Rattle.os_heap.proofs.Sized.{sized_found, sized_none}
use Rattle.os_heap.proofs.heaps.Heaps.block_size.Goals as goal

pub measure-requires : goal.measure-requires
measure-requires c = heap_there c.in-Some.field-0.kind c.args.map.now c.args.heap c.in-Some.field-0.len c.requires (found_part c.args.map.now c.args.heap c.in-Some.field-0 c.in-Some.ensures)

pub returns-in-Some : goal.returns-in-Some
returns-in-Some c =
    let found = found_part c.args.map.now c.args.heap c.in-Some.field-0 c.in-Some.ensures in
    record {
      answer = c.measure.ensures.answer ∙ sym (sized_found c.in-Some.field-0.kind c.args.map.now c.args.heap c.args.block c.in-Some.field-0.len found);
      probes = c.measure.ensures.probes ∙ sym (free_counted c.in-Some.field-0.kind c.args.map.now c.args.heap c.args.block c.in-Some.field-0.len found);
    }

pub returns-in-None : goal.returns-in-None
returns-in-None c =
    record {
      answer = rw c.refused.ensures (sym (sized_none c.args.map.now c.args.heap c.args.block c.in-None.ensures));
      probes = rw c.refused.ensures (sym (free_counted_none c.args.map.now c.args.heap c.args.block c.in-None.ensures));
    }
