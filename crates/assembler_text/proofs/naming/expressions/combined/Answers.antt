-- Each way out is what the definition says there.
use Rattle.std.proofs.Common.{rules}
use Rattle.assembler_text.specs.naming.Expressions.{sum_or_difference}
use Rattle.assembler_text.proofs.naming.expressions.combined.Goals as goal

pub returns-in_err-a : goal.returns-in_err-a
unfolding sum_or_difference
returns-in_err-a c = search rules

pub returns-in_err-b : goal.returns-in_err-b
unfolding sum_or_difference
returns-in_err-b c = search rules

pub returns-then-is_minus : goal.returns-then-is_minus
unfolding sum_or_difference
returns-then-is_minus c = search rules

pub returns-else-is_minus : goal.returns-else-is_minus
unfolding sum_or_difference
returns-else-is_minus c = search rules
