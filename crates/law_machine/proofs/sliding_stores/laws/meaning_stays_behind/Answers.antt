use Rattle.law_machine.proofs.SlidingStoresLemmas.Besides.{behind}
use Rattle.law_machine.proofs.sliding_stores.laws.meaning_stays_behind.Goals as goal

pub returns : goal.returns
returns c = behind
