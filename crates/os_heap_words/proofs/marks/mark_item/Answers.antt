use Rattle.std.proofs.Common.{arith}
use Rattle.os_heap_words.proofs.Marking.{item_words}
use Rattle.os_heap_words.proofs.marks.mark_item.Goals as goal

pub overflow_add-at : goal.overflow_add-at
overflow_add-at c = omega (arith, (item_words c.args.map.now c.args.at c.args.item c.requires).below)
