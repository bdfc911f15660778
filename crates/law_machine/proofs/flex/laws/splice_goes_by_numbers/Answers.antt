use Rattle.law_machine.proofs.FlexLemmas.Splices.{splice_goes_by_numbers}
use Rattle.law_machine.proofs.flex.laws.splice_goes_by_numbers.Goals as goal

pub returns : goal.returns
returns c = splice_goes_by_numbers
