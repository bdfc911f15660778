use Rattle.debug_history.proofs.AheadLemmas.{back_and_ahead}
use Rattle.debug_history.proofs.laws.back_and_ahead.Goals as goal

pub returns : goal.returns
returns c = back_and_ahead
