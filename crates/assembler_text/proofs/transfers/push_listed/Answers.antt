-- By the lemmas of `listed_steps`.
use Rattle.std.proofs.Common.{arith}
use Rattle.assembler_text.proofs.Listed.{listed_steps}
use Rattle.assembler_text.proofs.transfers.push_listed.Goals as goal

pub loop-number-init : goal.loop-number-init
loop-number-init g c = grind (arith, listed_steps)

pub loop-number-preserved : goal.loop-number-preserved
loop-number-preserved g c = grind (arith, listed_steps)

pub returns : goal.returns
returns g c = grind (arith, listed_steps)
