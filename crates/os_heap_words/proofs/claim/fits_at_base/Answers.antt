use Rattle.std.proofs.Common.{arith}
use Rattle.os_heap_words.specs.Outcomes.{end_at, items_at}
use Rattle.os_heap_words.proofs.Replace.{heap_below}
use Rattle.os_heap_words.proofs.claim.fits_at_base.Goals as goal

pub overflow_add-heap : goal.overflow_add-heap
overflow_add-heap c = omega (arith, heap_below c.args.map.now c.args.heap (end_at c.args.map.now c.args.heap) (items_at c.args.map.now c.args.heap) c.requires.heap, c.requires.heap.inside)

pub overflow_add-heap-2 : goal.overflow_add-heap-2
overflow_add-heap-2 c = omega (arith, heap_below c.args.map.now c.args.heap (end_at c.args.map.now c.args.heap) (items_at c.args.map.now c.args.heap) c.requires.heap, c.requires.heap.inside)
