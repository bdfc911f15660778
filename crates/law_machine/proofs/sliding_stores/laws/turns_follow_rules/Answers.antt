use Rattle.law_machine.proofs.SlidingStoresLemmas.Turns.{turns_follow}
use Rattle.law_machine.proofs.sliding_stores.laws.turns_follow_rules.Goals as goal

pub returns : goal.returns
returns c = turns_follow
