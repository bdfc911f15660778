use Rattle.law_machine.proofs.ModulesLemmas.Removals.{removals_prefer}
use Rattle.law_machine.proofs.modules.laws.removals_prefer_the_oldest.Goals as goal

pub returns : goal.returns
returns c = removals_prefer
