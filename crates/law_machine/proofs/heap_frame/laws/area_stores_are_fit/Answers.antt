use Rattle.law_machine.proofs.HeapFrameLemmas.Guests.{area_stores_fit}
use Rattle.law_machine.proofs.heap_frame.laws.area_stores_are_fit.Goals as goal

pub returns : goal.returns
returns c = area_stores_fit
