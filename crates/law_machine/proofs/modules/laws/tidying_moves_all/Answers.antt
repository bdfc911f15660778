use Rattle.law_machine.proofs.ModulesLemmas.Tidied.{tidy_fixes, tidy_moves_all}
use Rattle.law_machine.proofs.modules.laws.tidying_moves_all.Goals as goal

pub returns-clause-moved : goal.returns-clause-moved
returns-clause-moved c = tidy_moves_all

pub returns-clause-fixed : goal.returns-clause-fixed
returns-clause-fixed c = tidy_fixes
