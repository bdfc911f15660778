-- By the lemmas of `list_steps`.
use Rattle.std.proofs.Common.{arith}
use Rattle.assembler_reading.proofs.Ranges.{list_steps}
use Rattle.assembler_reading.proofs.register_lists.more_registers.Goals as goal

pub returns-in_default : goal.returns-in_default
returns-in_default c = grind (arith, list_steps)

pub returns-in_err-byte : goal.returns-in_err-byte
returns-in_err-byte c = grind (arith, list_steps)

pub returns-in_default-comma : goal.returns-in_default-comma
returns-in_default-comma c = grind (arith, list_steps)

pub loop-ranges-preserved : goal.loop-ranges-preserved
loop-ranges-preserved c = grind (arith, list_steps)

pub returns : goal.returns
returns c = grind (arith, list_steps)
