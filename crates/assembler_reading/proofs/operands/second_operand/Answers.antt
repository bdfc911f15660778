-- Each way out is what the definition says there.
use Rattle.std.proofs.Common.{rules}
use Rattle.assembler_reading.specs.Operands.{second_operand}
use Rattle.assembler_reading.proofs.operands.second_operand.Goals as goal

pub returns-in-Some : goal.returns-in-Some
unfolding second_operand
returns-in-Some c = search rules

pub returns-in-None : goal.returns-in-None
unfolding second_operand
returns-in-None c = search rules
