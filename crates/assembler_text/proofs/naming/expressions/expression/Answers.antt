-- Each way out is what the definition says there.
use Rattle.std.proofs.Common.{rules}
use Rattle.assembler_text.specs.naming.Expressions.{expression}
use Rattle.assembler_text.proofs.naming.expressions.expression.Goals as goal

pub returns-in_err-first : goal.returns-in_err-first
unfolding expression
returns-in_err-first c = search rules

pub returns : goal.returns
unfolding expression
returns c = search rules
