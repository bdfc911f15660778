use Rattle.law_machine.proofs.HeapCallsLemmas.Forgotten.{others_kept}
use Rattle.law_machine.proofs.heap_calls.laws.other_calls_keep_heap.Goals as goal

pub returns : goal.returns
returns c = others_kept
