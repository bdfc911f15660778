use Rattle.law_machine.proofs.HeapCallsLemmas.Forgotten.{frees_keep}
use Rattle.law_machine.proofs.heap_calls.laws.frees_keep_bytes.Goals as goal

pub returns : goal.returns
returns c = frees_keep
