use Rattle.std.proofs.Common.{arith}
use Rattle.os_heap_words.proofs.Tally.{heap_below}
use Rattle.os_heap.proofs.change.overgrows.Goals as goal

pub overflow_add-region : goal.overflow_add-region
overflow_add-region c = omega (arith, heap_below c.args.map.now c.args.region.now.at c.args.region.now.len c.requires.heap)
