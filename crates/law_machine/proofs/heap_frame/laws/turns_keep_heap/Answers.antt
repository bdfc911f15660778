use Rattle.law_machine.proofs.HeapFrameLemmas.Turns.{turns_keep}
use Rattle.law_machine.proofs.heap_frame.laws.turns_keep_heap.Goals as goal

pub returns : goal.returns
returns c = turns_keep
