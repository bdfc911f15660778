use Rattle.law_machine.proofs.HaltsLemmas.LateErrors.{refused_loads_change_nothing, refused_plans_change_nothing}
use Rattle.law_machine.proofs.halts.laws.refused_plans_change_nothing.Goals as goal

pub returns-clause-calls : goal.returns-clause-calls
returns-clause-calls c = refused_plans_change_nothing

pub returns-clause-loads : goal.returns-clause-loads
returns-clause-loads c = refused_loads_change_nothing
