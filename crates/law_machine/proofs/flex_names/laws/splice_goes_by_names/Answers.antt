use Rattle.law_machine.proofs.FlexNamesLemmas.Splices.{splice_goes_by_names}
use Rattle.law_machine.proofs.flex_names.laws.splice_goes_by_names.Goals as goal

pub returns : goal.returns
returns c = splice_goes_by_names
