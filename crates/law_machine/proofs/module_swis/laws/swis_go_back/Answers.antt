use Rattle.law_machine.proofs.ModuleSwisLemmas.Returning.{swis_go_back}
use Rattle.law_machine.proofs.module_swis.laws.swis_go_back.Goals as goal

pub returns : goal.returns
returns c = swis_go_back
