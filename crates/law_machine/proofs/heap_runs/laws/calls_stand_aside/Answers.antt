use Rattle.law_machine.proofs.HeapRunsLemmas.Asides.{stand_aside}
use Rattle.law_machine.proofs.heap_runs.laws.calls_stand_aside.Goals as goal

pub returns : goal.returns
returns c = stand_aside
