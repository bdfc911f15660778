use Rattle.law_machine.proofs.HeapAloneLemmas.Lists.{stand_alone}
use Rattle.law_machine.proofs.heap_alone.laws.heaps_stand_alone.Goals as goal

pub returns : goal.returns
returns c = stand_alone
