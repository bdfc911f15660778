use Rattle.law_machine.proofs.HeapAloneLemmas.Lists.{module_states_alike}
use Rattle.law_machine.proofs.heap_alone.laws.module_states_answer_alike.Goals as goal

pub returns : goal.returns
returns c = module_states_alike
