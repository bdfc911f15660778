use Rattle.law_machine.proofs.SlidingLemmas.Lawful.{store_calls_are}
use Rattle.law_machine.proofs.sliding.laws.store_calls_are_turns.Goals as goal

pub returns : goal.returns
returns c = store_calls_are
