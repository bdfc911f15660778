use Rattle.law_machine.proofs.FlexNamesLemmas.Done.{done_calls_go_by_names}
use Rattle.law_machine.proofs.flex_names.laws.done_calls_go_by_names.Goals as goal

pub returns : goal.returns
returns c = done_calls_go_by_names
