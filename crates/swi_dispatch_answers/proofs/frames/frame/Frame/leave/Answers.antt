-- As the definition says.
use Rattle.std.proofs.Common.{rules}
use Rattle.swi_dispatch_answers.specs.frames.Leaving.{left}
use Rattle.swi_dispatch_answers.proofs.frames.frame.Frame.leave.Goals as goal

pub returns : goal.returns
unfolding left
returns c = search rules
