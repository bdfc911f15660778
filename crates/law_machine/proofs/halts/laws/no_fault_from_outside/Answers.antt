use Rattle.law_machine.proofs.HaltsLemmas.Halting.{no_fault_from_outside}
use Rattle.law_machine.proofs.halts.laws.no_fault_from_outside.Goals as goal

pub returns : goal.returns
returns c = no_fault_from_outside
