use Rattle.law_machine.proofs.SlidingLemmas.States.{states_have}
use Rattle.law_machine.proofs.sliding.laws.states_have_stores.Goals as goal

pub returns : goal.returns
returns c = states_have
