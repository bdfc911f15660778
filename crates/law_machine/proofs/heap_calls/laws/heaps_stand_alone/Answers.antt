use Rattle.law_machine.proofs.HeapCallsLemmas.Lists.{stand_alone}
use Rattle.law_machine.proofs.heap_calls.laws.heaps_stand_alone.Goals as goal

pub returns : goal.returns
returns c = stand_alone
