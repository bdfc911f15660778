use Rattle.law_machine.proofs.SlidingNamesLemmas.Naming.{turns_named}
use Rattle.law_machine.proofs.sliding_names.laws.turns_go_by_names.Goals as goal

pub returns : goal.returns
returns c = turns_named
