use Rattle.law_machine.proofs.HeapFrameLemmas.Areas.{area_calls_keep}
use Rattle.law_machine.proofs.heap_frame.laws.area_calls_keep_heap.Goals as goal

pub returns : goal.returns
returns c = area_calls_keep
