use Rattle.law_machine.proofs.FlexNamesLemmas.Calls.{calls_go_by_names}
use Rattle.law_machine.proofs.flex_names.laws.calls_go_by_names.Goals as goal

pub returns : goal.returns
returns c = calls_go_by_names
