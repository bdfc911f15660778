use Rattle.law_machine.proofs.HeapCallsLemmas.Growths.{growths_judged, growths_meet, growths_refused}
use Rattle.law_machine.proofs.heap_calls.laws.growths_are_judged.Goals as goal

pub returns : goal.returns
returns c = record { judged = growths_judged; outer = growths_meet; refused = growths_refused }
