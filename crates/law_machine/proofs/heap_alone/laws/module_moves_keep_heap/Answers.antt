use Rattle.law_machine.proofs.HeapAloneLemmas.ModuleMoves.{module_moves_keep}
use Rattle.law_machine.proofs.heap_alone.laws.module_moves_keep_heap.Goals as goal

pub returns : goal.returns
returns c = module_moves_keep
