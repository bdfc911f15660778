-- By the lemmas of `item_steps`.
use Rattle.std.proofs.Common.{arith}
use Rattle.debugger.proofs.HeapLemmas.{item_steps}
use Rattle.debugger.proofs.heap.show_items.Goals as goal

pub loop-item-preserved : goal.loop-item-preserved
loop-item-preserved g c = grind (arith, item_steps)

pub returns : goal.returns
returns g c = grind (arith, item_steps)
