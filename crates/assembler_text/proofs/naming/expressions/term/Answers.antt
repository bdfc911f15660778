-- Each way out is what the definition says there.
use Rattle.std.proofs.lemmas.Grind.{common_steps}
use Rattle.std.proofs.Common.{arith, rules}
use Rattle.assembler_text.specs.naming.Expressions.{term}
use Rattle.assembler_text.proofs.naming.expressions.term.Goals as goal

pub returns-in-empty : goal.returns-in-empty
unfolding term
returns-in-empty c = search rules

pub returns-in-39 : goal.returns-in-39
unfolding term
returns-in-39 c = grind (arith, common_steps)

pub returns-in-38 : goal.returns-in-38
unfolding term
returns-in-38 c = grind (arith, common_steps)

pub returns-in_default : goal.returns-in_default
unfolding term
returns-in_default c = search rules
