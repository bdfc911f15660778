use Rattle.law_machine.proofs.HeapCallsLemmas.OwnCalls.{own_turns}
use Rattle.law_machine.proofs.heap_calls.laws.own_calls_are_turns.Goals as goal

pub returns : goal.returns
returns c = own_turns
