use Rattle.law_machine.proofs.HeapFrameLemmas.HeapCalls.{heap_calls_fit}
use Rattle.law_machine.proofs.heap_frame.laws.heap_calls_stay_fit.Goals as goal

pub returns : goal.returns
returns c = heap_calls_fit
