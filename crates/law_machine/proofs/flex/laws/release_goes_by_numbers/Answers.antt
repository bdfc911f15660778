use Rattle.law_machine.proofs.FlexLemmas.Releases.{release_goes_by_numbers}
use Rattle.law_machine.proofs.flex.laws.release_goes_by_numbers.Goals as goal

pub returns : goal.returns
returns c = release_goes_by_numbers
