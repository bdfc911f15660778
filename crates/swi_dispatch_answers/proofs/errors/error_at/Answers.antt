-- Each way out is what the definition says there.
use Rattle.std.proofs.Common.{rules}
use Rattle.swi_dispatch_answers.specs.Errors.{error_at}
use Rattle.swi_dispatch_answers.proofs.errors.error_at.Goals as goal

pub returns-then-at-ne0 : goal.returns-then-at-ne0
unfolding error_at
returns-then-at-ne0 c = search rules

pub returns : goal.returns
unfolding error_at
returns c = search rules
