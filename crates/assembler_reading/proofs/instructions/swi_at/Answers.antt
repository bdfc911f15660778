-- Each way out is what the definition says there.
use Rattle.std.proofs.Common.{rules}
use Rattle.assembler_reading.specs.Instructions.{swi_at}
use Rattle.assembler_reading.proofs.instructions.swi_at.Goals as goal

pub returns-in_err-number : goal.returns-in_err-number
unfolding swi_at
returns-in_err-number c = search rules

pub returns : goal.returns
unfolding swi_at
returns c = search rules
