-- By the lemmas of `term_steps`.
use Rattle.std.proofs.Common.{arith}
use Rattle.assembler_text.proofs.NamingLemmas.Terms.{term_steps}
use Rattle.assembler_text.proofs.naming.expressions.more_terms.Goals as goal

pub returns-in_default : goal.returns-in_default
returns-in_default c = grind (arith, term_steps)

pub returns-in_err-value : goal.returns-in_err-value
returns-in_err-value c = grind (arith, term_steps)

pub loop-terms-preserved : goal.loop-terms-preserved
loop-terms-preserved c = grind (arith, term_steps)

pub returns : goal.returns
returns c = grind (arith, term_steps)
