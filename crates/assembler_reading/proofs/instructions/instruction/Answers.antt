-- Each way out is what the definition says there.
use Rattle.std.proofs.Common.{rules}
use Rattle.assembler_reading.specs.Instructions.{instruction}
use Rattle.assembler_reading.proofs.instructions.instruction.Goals as goal

pub returns-in_err-mnemonic : goal.returns-in_err-mnemonic
unfolding instruction
returns-in_err-mnemonic c = search rules

pub returns-in_err-operands : goal.returns-in_err-operands
unfolding instruction
returns-in_err-operands c = search rules

pub returns-in_default : goal.returns-in_default
unfolding instruction
returns-in_default c = search rules

pub returns : goal.returns
unfolding instruction
returns c = search rules
