use Rattle.debug_history.proofs.ActLemmas.{back_counts, back_to_now}
use Rattle.debug_history.proofs.laws.back_goes_where_asked.Goals as goal

pub returns-clause-now : goal.returns-clause-now
returns-clause-now c = back_to_now

pub returns-clause-counted : goal.returns-clause-counted
returns-clause-counted c = back_counts
