-- Each way out is what the definition says there.
use Rattle.std.proofs.Common.{rules}
use Rattle.swi_dispatch_plans.specs.ModulePlans.{may_begin_alone}
use Rattle.swi_dispatch_plans.proofs.planner.Planner.may_begin_alone.Goals as goal

pub returns-then-is_some-clause-value : goal.returns-then-is_some-clause-value
unfolding may_begin_alone
returns-then-is_some-clause-value c = search rules

pub returns-clause-value : goal.returns-clause-value
unfolding may_begin_alone
returns-clause-value c = search rules
