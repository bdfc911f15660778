-- Each way out is what the definition says there.
use Rattle.std.proofs.Common.{rules}
use Rattle.assembler.specs.Line.{line}
use Rattle.assembler.proofs.line.put_line.Goals as goal

pub returns-in_default : goal.returns-in_default
unfolding line
returns-in_default c = search rules

pub returns-in-Some-2 : goal.returns-in-Some-2
unfolding line
returns-in-Some-2 c = search rules

pub returns-in-None : goal.returns-in-None
unfolding line
returns-in-None c = search rules
