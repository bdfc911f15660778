-- By the lemmas of `first_steps`.
use Rattle.std.proofs.Common.{arith}
use Rattle.assembler.proofs.PassLemmas.{first_steps}
use Rattle.assembler.proofs.assembling.labels_of.Goals as goal

pub returns-in_default : goal.returns-in_default
returns-in_default c = grind (arith, first_steps)

pub returns-in-Err : goal.returns-in-Err
returns-in-Err c = grind (arith, first_steps)

pub loop-index-preserved : goal.loop-index-preserved
loop-index-preserved c = grind (arith, first_steps)

pub returns : goal.returns
returns c = grind (arith, first_steps)
