use Rattle.debug_history.proofs.ActLemmas.{back_then_steps}
use Rattle.debug_history.proofs.laws.back_then_step.Goals as goal

pub returns : goal.returns
returns c = back_then_steps
