use Rattle.law_machine.proofs.HeapFrameLemmas.BlockCalls.{block_calls_keep}
use Rattle.law_machine.proofs.heap_frame.laws.block_calls_keep.Goals as goal

pub returns : goal.returns
returns c = block_calls_keep
