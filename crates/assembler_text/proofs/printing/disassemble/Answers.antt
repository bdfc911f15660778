-- Each way out is what the definition says there.
use Rattle.std.proofs.Common.{rules}
use Rattle.assembler_text.specs.Printing.{print}
use Rattle.assembler_text.proofs.printing.disassemble.Goals as goal

pub returns-in-Ok : goal.returns-in-Ok
unfolding print
returns-in-Ok g c = search rules

pub returns-in-Err : goal.returns-in-Err
unfolding print
returns-in-Err g c = search rules
