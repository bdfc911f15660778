use Rattle.law_machine.proofs.FlexNamesLemmas.Removals.{release_goes_by_names}
use Rattle.law_machine.proofs.flex_names.laws.release_goes_by_names.Goals as goal

pub returns : goal.returns
returns c = release_goes_by_names
