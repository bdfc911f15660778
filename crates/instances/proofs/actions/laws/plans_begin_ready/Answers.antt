use Rattle.instances.proofs.ActionsLemmas.CallsReady.{all_go, clear_is_ready, instantiate_is_ready, load_is_ready, reinit_is_ready, tidy_is_ready}
use Rattle.instances.proofs.actions.laws.plans_begin_ready.Goals as goal

pub returns : goal.returns
returns c = record {
  load = load_is_ready;
  clear = clear_is_ready;
  reinit = reinit_is_ready;
  instantiate = instantiate_is_ready;
  tidy = tidy_is_ready;
  all = all_go;
}
