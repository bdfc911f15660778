use Rattle.law_machine.proofs.HeapFrameLemmas.ModuleArea.{module_area_calls_fit}
use Rattle.law_machine.proofs.heap_frame.laws.module_area_calls_stay_fit.Goals as goal

pub returns : goal.returns
returns c = module_area_calls_fit
