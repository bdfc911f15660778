use Rattle.law_machine.proofs.FlexNamesLemmas.Runs.{runs_go_by_names}
use Rattle.law_machine.proofs.flex_names.laws.runs_go_by_names.Goals as goal

pub returns : goal.returns
returns c = runs_go_by_names
