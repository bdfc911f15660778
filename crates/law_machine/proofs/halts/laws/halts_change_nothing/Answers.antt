use Rattle.law_machine.proofs.HaltsLemmas.Halting.{halts_change_nothing}
use Rattle.law_machine.proofs.halts.laws.halts_change_nothing.Goals as goal

pub returns : goal.returns
returns c = halts_change_nothing
