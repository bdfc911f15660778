use Rattle.law_machine.proofs.HeapFrameLemmas.FlexCalls.{flex_calls_keep, flex_init_keeps}
use Rattle.law_machine.proofs.heap_frame.laws.flex_calls_keep_heap.Goals as goal

pub returns : goal.returns
returns c = record { called = flex_calls_keep; init = flex_init_keeps }
