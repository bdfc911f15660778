use Rattle.std.proofs.Common.{arith, ap}
use Rattle.os_heap_words.specs.Items.{size_of}
use Rattle.os_heap_words.proofs.Tally.{heap_below}
use Rattle.os_heap.proofs.payload.payload_at.Goals as goal

pub overflow_add-heap : goal.overflow_add-heap
overflow_add-heap c = omega (arith, heap_below c.args.map.now c.args.heap c.args.end c.requires, c.requires.inside)

pub payload_among-requires-clause-below : goal.payload_among-requires-clause-below
payload_among-requires-clause-below c =
    omega (arith, ap size_of c.blocks_of.ensures, heap_below c.args.map.now c.args.heap c.args.end c.requires, c.requires.inside)
