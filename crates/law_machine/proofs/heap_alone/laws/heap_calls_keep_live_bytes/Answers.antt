use Rattle.law_machine.proofs.HeapAloneLemmas.LiveBytes.{heap_calls_keep}
use Rattle.law_machine.proofs.heap_alone.laws.heap_calls_keep_live_bytes.Goals as goal

pub returns : goal.returns
returns c = heap_calls_keep
