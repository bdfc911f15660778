use Rattle.law_machine.proofs.SlidingLemmas.Lawful.{tidies_go}
use Rattle.law_machine.proofs.sliding.laws.tidies_go_on.Goals as goal

pub returns : goal.returns
returns c = tidies_go
