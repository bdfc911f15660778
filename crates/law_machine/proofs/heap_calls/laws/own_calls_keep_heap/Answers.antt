use Rattle.law_machine.proofs.HeapCallsLemmas.OwnHeaps.{own_kept}
use Rattle.law_machine.proofs.heap_calls.laws.own_calls_keep_heap.Goals as goal

pub returns : goal.returns
returns c = own_kept
