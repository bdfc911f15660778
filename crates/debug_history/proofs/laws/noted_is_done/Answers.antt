use Rattle.debug_history.proofs.LineNotedLemmas.{noted_is_done}
use Rattle.debug_history.proofs.laws.noted_is_done.Goals as goal

pub returns : goal.returns
returns c = noted_is_done
