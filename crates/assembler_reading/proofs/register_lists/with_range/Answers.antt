-- By the lemmas of `range_steps`.
use Rattle.std.proofs.Common.{arith}
use Rattle.assembler_reading.proofs.Ranges.{range_steps}
use Rattle.assembler_reading.proofs.register_lists.with_range.Goals as goal

pub loop-number-init : goal.loop-number-init
loop-number-init c = grind (arith, range_steps)

pub loop-number-preserved : goal.loop-number-preserved
loop-number-preserved c = grind (arith, range_steps)

pub returns : goal.returns
returns c = grind (arith, range_steps)
