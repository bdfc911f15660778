use Rattle.std.proofs.Common.{◌+◌, arith}
use Rattle.address_map.proofs.Spans.{mapped_below}
use Rattle.os_heap_words.proofs.marks.mark_descriptor.Goals as goal

pub overflow_add-heap : goal.overflow_add-heap
overflow_add-heap c = omega (arith, mapped_below c.args.map.now (c.args.heap + 12) (c.requires.mapped (c.args.heap + 12) (omega arith) (omega arith)))

pub overflow_add-heap-2 : goal.overflow_add-heap-2
overflow_add-heap-2 c = omega (arith, mapped_below c.args.map.now (c.args.heap + 12) (c.requires.mapped (c.args.heap + 12) (omega arith) (omega arith)))

pub overflow_add-heap-3 : goal.overflow_add-heap-3
overflow_add-heap-3 c = omega (arith, mapped_below c.args.map.now (c.args.heap + 12) (c.requires.mapped (c.args.heap + 12) (omega arith) (omega arith)))
