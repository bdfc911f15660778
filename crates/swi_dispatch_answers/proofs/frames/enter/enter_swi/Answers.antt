-- As the definition says.
use Rattle.std.proofs.Common.{rules}
use Rattle.swi_dispatch_answers.specs.frames.Entering.{swi_entered}
use Rattle.swi_dispatch_answers.proofs.frames.enter.enter_swi.Goals as goal

pub returns : goal.returns
unfolding swi_entered
returns c = search rules
