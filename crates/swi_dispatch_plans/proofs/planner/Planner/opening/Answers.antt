-- Each way out is what the definition says there.
use Rattle.std.proofs.Common.{rules}
use Rattle.swi_dispatch_plans.specs.Openings.{opening_asked}
use Rattle.swi_dispatch_plans.proofs.planner.Planner.opening.Goals as goal

pub returns-in_err-name-clause-value : goal.returns-in_err-name-clause-value
unfolding opening_asked
returns-in_err-name-clause-value c = search rules

pub returns-in_err-text-clause-value : goal.returns-in_err-text-clause-value
unfolding opening_asked
returns-in_err-text-clause-value c = search rules

pub returns-in_err-start-clause-value : goal.returns-in_err-start-clause-value
unfolding opening_asked
returns-in_err-start-clause-value c = search rules

pub returns-then-len-gt0-clause-value : goal.returns-then-len-gt0-clause-value
unfolding opening_asked
returns-then-len-gt0-clause-value c = search rules

pub returns-clause-value : goal.returns-clause-value
unfolding opening_asked
returns-clause-value c = search rules
