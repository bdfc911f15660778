-- Each way out is what the definition says there.
use Rattle.std.proofs.lemmas.Grind.{common_steps}
use Rattle.std.proofs.Common.{arith, rules}
use Rattle.assembler_text.specs.naming.Expressions.{sign}
use Rattle.assembler_text.proofs.naming.expressions.sign.Goals as goal

pub returns-in-45 : goal.returns-in-45
unfolding sign
returns-in-45 c = grind (arith, common_steps)

pub returns-in-43 : goal.returns-in-43
unfolding sign
returns-in-43 c = grind (arith, common_steps)

pub returns-in_default : goal.returns-in_default
unfolding sign
returns-in_default c = search rules
