use Rattle.law_machine.proofs.OtherBytesLemmas.HeapCalls.{heap_calls_keep_others}
use Rattle.law_machine.proofs.other_bytes.laws.heap_calls_keep_others.Goals as goal

pub returns : goal.returns
returns c = heap_calls_keep_others
