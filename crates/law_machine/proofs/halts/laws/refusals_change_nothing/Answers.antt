use Rattle.law_machine.proofs.HaltsLemmas.Refusing.{going_on_is_done, refusals_change_nothing, refused_steps_change_nothing, refused_store_calls_change_nothing}
use Rattle.law_machine.proofs.halts.laws.refusals_change_nothing.Goals as goal

pub returns-clause-refused : goal.returns-clause-refused
returns-clause-refused c = refusals_change_nothing

pub returns-clause-done : goal.returns-clause-done
returns-clause-done c = going_on_is_done

pub returns-clause-steps : goal.returns-clause-steps
returns-clause-steps c = refused_steps_change_nothing

pub returns-clause-outside : goal.returns-clause-outside
returns-clause-outside c = refused_store_calls_change_nothing
