use Rattle.law_machine.proofs.HeapCallsLemmas.Lists.{answer_alike}
use Rattle.law_machine.proofs.heap_calls.laws.stores_answer_alike.Goals as goal

pub returns : goal.returns
returns c = answer_alike
