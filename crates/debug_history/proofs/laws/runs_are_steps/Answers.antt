use Rattle.debug_history.proofs.StepLemmas.{runs_are_steps}
use Rattle.debug_history.proofs.laws.runs_are_steps.Goals as goal

pub returns : goal.returns
returns c = runs_are_steps
