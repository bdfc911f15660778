use Rattle.law_machine.proofs.HeapFrameLemmas.Words.{writes_fit}
use Rattle.law_machine.proofs.heap_frame.laws.writes_stay_fit.Goals as goal

pub returns : goal.returns
returns c = writes_fit
