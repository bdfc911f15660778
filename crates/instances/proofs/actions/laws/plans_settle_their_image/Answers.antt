use Rattle.instances.proofs.ActionsLemmas.Settling.{clear_settles, instantiate_settles, load_settles, reinit_settles, tidy_settles}
use Rattle.instances.proofs.actions.laws.plans_settle_their_image.Goals as goal

pub returns : goal.returns
returns c = record {
  load = load_settles;
  clear = clear_settles;
  reinit = reinit_settles;
  instantiate = instantiate_settles;
  tidy = tidy_settles;
}
