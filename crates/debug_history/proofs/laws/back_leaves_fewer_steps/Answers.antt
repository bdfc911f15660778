use Rattle.debug_history.proofs.ActLemmas.{back_leaves_fewer}
use Rattle.debug_history.proofs.laws.back_leaves_fewer_steps.Goals as goal

pub returns : goal.returns
returns c = back_leaves_fewer
