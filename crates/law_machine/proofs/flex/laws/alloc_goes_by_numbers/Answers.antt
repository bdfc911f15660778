use Rattle.law_machine.proofs.FlexLemmas.Allocs.{alloc_goes_by_numbers}
use Rattle.law_machine.proofs.flex.laws.alloc_goes_by_numbers.Goals as goal

pub returns : goal.returns
returns c = alloc_goes_by_numbers
