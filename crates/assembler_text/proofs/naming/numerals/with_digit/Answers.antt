-- Each way out is what the definition says there.
use Rattle.std.proofs.Common.{rules}
use Rattle.assembler_text.specs.naming.Expressions.{value_with_digit}
use Rattle.assembler_text.proofs.naming.numerals.with_digit.Goals as goal

pub returns-in_err-digit-clause-value : goal.returns-in_err-digit-clause-value
unfolding value_with_digit
returns-in_err-digit-clause-value c = search rules

pub returns-clause-value : goal.returns-clause-value
unfolding value_with_digit
returns-clause-value c = search rules
