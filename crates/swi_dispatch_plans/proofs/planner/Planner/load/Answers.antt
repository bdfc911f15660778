-- Each way out is what the definition says there.
use Rattle.std.proofs.Common.{rules}
use Rattle.swi_dispatch_plans.specs.ImagePlans.{load_asked}
use Rattle.swi_dispatch_plans.proofs.planner.Planner.load.Goals as goal

pub returns-in_err-image-clause-value : goal.returns-in_err-image-clause-value
unfolding load_asked
returns-in_err-image-clause-value c = search rules

pub returns-in_default-clause-value : goal.returns-in_default-clause-value
unfolding load_asked
returns-in_default-clause-value c = search rules

pub returns-in_err-may_load-clause-value : goal.returns-in_err-may_load-clause-value
unfolding load_asked
returns-in_err-may_load-clause-value c = search rules

pub returns-clause-value : goal.returns-clause-value
unfolding load_asked
returns-clause-value c = search rules
