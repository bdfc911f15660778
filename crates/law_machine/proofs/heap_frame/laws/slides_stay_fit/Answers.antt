use Rattle.law_machine.proofs.HeapFrameLemmas.Sliding.{slid_fit}
use Rattle.law_machine.proofs.heap_frame.laws.slides_stay_fit.Goals as goal

pub returns : goal.returns
returns c = slid_fit
