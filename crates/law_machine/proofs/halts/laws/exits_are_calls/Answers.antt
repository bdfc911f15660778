use Rattle.law_machine.proofs.HaltsLemmas.Halting.{exits_are_calls}
use Rattle.law_machine.proofs.halts.laws.exits_are_calls.Goals as goal

pub returns : goal.returns
returns c = exits_are_calls
