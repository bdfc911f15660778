use Rattle.law_machine.proofs.HeapRunsLemmas.Halves.{are_alike}
use Rattle.law_machine.proofs.heap_runs.pairs.make_in_two.Goals as goal

pub returns-clause-alike : goal.returns-clause-alike
returns-clause-alike g c = are_alike _ _ c.make_events-first.ensures.made.alone c.make_events.ensures.made.alone
