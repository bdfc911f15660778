use Rattle.law_machine.proofs.HeapFrameLemmas.Guests.{outside_keeps}
use Rattle.law_machine.proofs.heap_frame.laws.outside_keeps_heap.Goals as goal

pub returns : goal.returns
returns c = outside_keeps
