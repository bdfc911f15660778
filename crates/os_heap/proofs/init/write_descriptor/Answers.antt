use Rattle.std.proofs.Common.{arith}
use Rattle.os_heap.proofs.RangeTests.{range_end}
use Rattle.os_heap.proofs.init.write_descriptor.Goals as goal

pub overflow_add-heap : goal.overflow_add-heap
overflow_add-heap c = omega (arith, range_end c.args.map.now c.args.heap c.args.size c.requires.mapped (omega arith))

pub overflow_add-heap-2 : goal.overflow_add-heap-2
overflow_add-heap-2 c = omega (arith, range_end c.args.map.now c.args.heap c.args.size c.requires.mapped (omega arith))

pub overflow_add-heap-3 : goal.overflow_add-heap-3
overflow_add-heap-3 c = omega (arith, range_end c.args.map.now c.args.heap c.args.size c.requires.mapped (omega arith))
