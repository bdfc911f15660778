use Rattle.instances.proofs.ActionsLemmas.Settling.{none_slides, pending_is_settled, pending_outlasts, pending_stays, stays_settled, stays_settled_refused}
use Rattle.instances.proofs.actions.laws.plans_go_on_settling.Goals as goal

pub returns : goal.returns
returns c = record {
  well = stays_settled;
  refused = stays_settled_refused;
  pending = pending_stays;
  settled = pending_is_settled;
  outlasts = pending_outlasts;
  slides = none_slides;
}
