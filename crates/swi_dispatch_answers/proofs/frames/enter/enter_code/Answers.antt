-- As the definition says.
use Rattle.std.proofs.Common.{rules}
use Rattle.swi_dispatch_answers.specs.frames.Entering.{code_entered}
use Rattle.swi_dispatch_answers.proofs.frames.enter.enter_code.Goals as goal

pub returns : goal.returns
unfolding code_entered
returns c = search rules
