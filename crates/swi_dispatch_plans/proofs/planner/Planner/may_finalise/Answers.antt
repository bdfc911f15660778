-- Each way out is what the definition says there.
use Rattle.std.proofs.Common.{rules}
use Rattle.swi_dispatch_plans.specs.ModulePlans.{may_finalise}
use Rattle.swi_dispatch_plans.proofs.planner.Planner.may_finalise.Goals as goal

pub returns-then-is_some-clause-value : goal.returns-then-is_some-clause-value
unfolding may_finalise
returns-then-is_some-clause-value c = search rules

pub returns-then-len-eq-MOST_FRAMES-clause-value : goal.returns-then-len-eq-MOST_FRAMES-clause-value
unfolding may_finalise
returns-then-len-eq-MOST_FRAMES-clause-value c = search rules

pub returns-clause-value : goal.returns-clause-value
unfolding may_finalise
returns-clause-value c = search rules
