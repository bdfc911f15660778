use Rattle.rma.proofs.FlexFrameLemmas.Heaps.{heap_calls_keep}
use Rattle.rma.proofs.flex_frame.laws.heap_calls_keep_flex.Goals as goal

pub returns : goal.returns
returns c = heap_calls_keep
