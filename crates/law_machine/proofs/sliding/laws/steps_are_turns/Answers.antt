use Rattle.law_machine.proofs.SlidingLemmas.Lawful.{steps_are}
use Rattle.law_machine.proofs.sliding.laws.steps_are_turns.Goals as goal

pub returns : goal.returns
returns c = steps_are
