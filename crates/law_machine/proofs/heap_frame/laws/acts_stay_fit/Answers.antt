use Rattle.law_machine.proofs.HeapFrameLemmas.Plans.{acts_fit}
use Rattle.law_machine.proofs.heap_frame.laws.acts_stay_fit.Goals as goal

pub returns : goal.returns
returns c = acts_fit
