-- By the lemmas of `output_steps`.
use Rattle.std.proofs.Common.{arith}
use Rattle.swi_dispatch_guest.proofs.OutputLemmas.{output_steps}
use Rattle.debugger.proofs.flex.show_all.Goals as goal

pub loop-block-preserved : goal.loop-block-preserved
loop-block-preserved g c = grind (arith, output_steps)
