-- By the lemmas of `second_steps`.
use Rattle.std.proofs.Common.{arith}
use Rattle.assembler.proofs.PassLemmas.{second_steps}
use Rattle.assembler.proofs.assembling.program_of.Goals as goal

pub returns-in_default : goal.returns-in_default
returns-in_default c = grind (arith, second_steps)

pub returns-in-Err : goal.returns-in-Err
returns-in-Err c = grind (arith, second_steps)

pub loop-index-preserved : goal.loop-index-preserved
loop-index-preserved c = grind (arith, second_steps)

pub returns : goal.returns
returns c = grind (arith, second_steps)
