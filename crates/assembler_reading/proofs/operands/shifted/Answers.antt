-- Each way out is what the definition says there.
use Rattle.std.proofs.Common.{rules}
use Rattle.assembler_reading.specs.Operands.{shifted_operand}
use Rattle.assembler_reading.proofs.operands.shifted.Goals as goal

pub returns-in_default : goal.returns-in_default
unfolding shifted_operand
returns-in_default c = search rules

pub returns : goal.returns
unfolding shifted_operand
returns c = search rules
