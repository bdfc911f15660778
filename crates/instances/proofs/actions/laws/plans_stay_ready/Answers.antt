use Rattle.instances.proofs.ActionsLemmas.Readying.{ready_acts, stays_ready, stays_ready_refused}
use Rattle.instances.proofs.actions.laws.plans_stay_ready.Goals as goal

pub returns : goal.returns
returns c = record { acts = ready_acts; well = stays_ready; refused = stays_ready_refused }
