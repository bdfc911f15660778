use Rattle.law_machine.proofs.SlidingLemmas.Lawful.{calls_are}
use Rattle.law_machine.proofs.sliding.laws.calls_are_turns.Goals as goal

pub returns : goal.returns
returns c = calls_are
