use Rattle.law_machine.proofs.HeapAloneLemmas.ModuleLaws.{gates_keep}
use Rattle.law_machine.proofs.heap_alone.laws.gates_keep_heap.Goals as goal

pub returns : goal.returns
returns c = gates_keep
