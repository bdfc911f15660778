use Rattle.law_machine.proofs.SlidingStoresLemmas.Turns.{machines_have}
use Rattle.law_machine.proofs.sliding_stores.laws.machines_have_stores.Goals as goal

pub returns : goal.returns
returns c = machines_have
