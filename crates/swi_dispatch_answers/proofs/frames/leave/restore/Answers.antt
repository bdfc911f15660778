-- By the lemmas of `restoring`.
use Rattle.std.proofs.Common.{arith}
use Rattle.swi_dispatch_answers.proofs.FramesLemmas.Restoring.{restoring}
use Rattle.swi_dispatch_answers.proofs.frames.leave.restore.Goals as goal

pub loop-number-preserved : goal.loop-number-preserved
loop-number-preserved c = grind (arith, restoring)

pub returns : goal.returns
returns c = grind (arith, restoring)
