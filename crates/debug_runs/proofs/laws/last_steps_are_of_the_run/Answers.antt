use Rattle.debug_runs.proofs.LastLemmas.{texts_of_trace}
use Rattle.debug_runs.proofs.TracedLemmas.{last_is_run}
use Rattle.debug_runs.proofs.laws.last_steps_are_of_the_run.Goals as goal

pub returns-clause-run : goal.returns-clause-run
returns-clause-run c = last_is_run

pub returns-clause-texts : goal.returns-clause-texts
returns-clause-texts c = texts_of_trace
