use Rattle.debug_history.proofs.SearchLemmas.{last_is_greatest}
use Rattle.debug_history.proofs.laws.last_is_the_greatest.Goals as goal

pub returns : goal.returns
returns c = last_is_greatest
