use Rattle.std.proofs.Common.{arith}
use Rattle.os_heap_words.specs.Outcomes.{end_at}
use Rattle.os_heap_words.proofs.Replace.{heap_below}
use Rattle.os_heap.proofs.room.base_of.Goals as goal

pub overflow_add-heap : goal.overflow_add-heap
overflow_add-heap c =
    omega (arith, heap_below c.args.map.now c.args.heap (end_at c.args.map.now c.args.heap) _ c.requires, c.requires.inside)
