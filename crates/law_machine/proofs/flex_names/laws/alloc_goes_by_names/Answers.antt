use Rattle.law_machine.proofs.FlexNamesLemmas.Additions.{alloc_goes_by_names}
use Rattle.law_machine.proofs.flex_names.laws.alloc_goes_by_names.Goals as goal

pub returns : goal.returns
returns c = alloc_goes_by_names
