use Rattle.law_machine.proofs.FlexLemmas.Calls.{calls_go_by_numbers}
use Rattle.law_machine.proofs.flex.laws.calls_go_by_numbers.Goals as goal

pub returns : goal.returns
returns c = calls_go_by_numbers
