use Rattle.law_machine.proofs.FlexLemmas.PaddingCalls.{padding_goes_by_numbers}
use Rattle.law_machine.proofs.flex.laws.padding_goes_by_numbers.Goals as goal

pub returns : goal.returns
returns c = padding_goes_by_numbers
