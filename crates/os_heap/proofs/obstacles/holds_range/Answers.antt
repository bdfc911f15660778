use Rattle.std.proofs.Common.{arith, ap}
use Rattle.os_heap_words.specs.Items.{size_of}
use Rattle.os_heap_words.proofs.Tally.{heap_below}
use Rattle.os_heap.proofs.obstacles.holds_range.Goals as goal

pub overflow_add-heap : goal.overflow_add-heap
overflow_add-heap c = omega (arith, heap_below c.args.map.now c.args.heap c.args.end c.requires.heap, c.requires.heap.inside)

pub range_among-requires-clause-below : goal.range_among-requires-clause-below
range_among-requires-clause-below c =
    omega (arith, ap size_of c.blocks_of.ensures, heap_below c.args.map.now c.args.heap c.args.end c.requires.heap, c.requires.heap.inside)
