use Rattle.instances_table.proofs.PlansLemmas.Doable.{clear_is_doable, instantiate_is_doable, load_is_doable, tidy_is_doable}
use Rattle.instances_table.proofs.plans.laws.plans_find_their_instances.Goals as goal

pub returns-clause-load : goal.returns-clause-load
returns-clause-load c = load_is_doable

pub returns-clause-clear : goal.returns-clause-clear
returns-clause-clear c = clear_is_doable

pub returns-clause-instantiate : goal.returns-clause-instantiate
returns-clause-instantiate c = instantiate_is_doable

pub returns-clause-tidy : goal.returns-clause-tidy
returns-clause-tidy c = tidy_is_doable
