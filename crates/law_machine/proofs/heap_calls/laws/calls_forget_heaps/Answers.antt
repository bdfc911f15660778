use Rattle.law_machine.proofs.HeapCallsLemmas.Forgotten.{calls_forget, forgotten_lies}
use Rattle.law_machine.proofs.heap_calls.laws.calls_forget_heaps.Goals as goal

pub returns : goal.returns
returns c = record { forgotten = calls_forget; inner = forgotten_lies }
