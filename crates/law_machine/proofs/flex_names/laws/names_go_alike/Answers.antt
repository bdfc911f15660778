use Rattle.law_machine.proofs.FlexNamesLemmas.Alike.{names_go_alike}
use Rattle.law_machine.proofs.flex_names.laws.names_go_alike.Goals as goal

pub returns : goal.returns
returns c = names_go_alike
