-- Each way out is what the definition says there.
use Rattle.std.proofs.Common.{rules}
use Rattle.swi_dispatch_plans.specs.ModulePlans.{tidy_planned}
use Rattle.swi_dispatch_plans.proofs.planner.Planner.tidy.Goals as goal

pub returns-in_err-may_begin_alone-clause-value : goal.returns-in_err-may_begin_alone-clause-value
unfolding tidy_planned
returns-in_err-may_begin_alone-clause-value c = search rules

pub returns-clause-value : goal.returns-clause-value
unfolding tidy_planned
returns-clause-value c = search rules
