use Rattle.law_machine.proofs.HeapAloneLemmas.ModuleLaws.{loads_keep, module_calls_keep, module_swis_keep}
use Rattle.law_machine.proofs.heap_alone.laws.module_calls_keep_heap.Goals as goal

pub returns : goal.returns
returns c = record { calls = module_calls_keep; handlers = module_swis_keep; loads = loads_keep }
