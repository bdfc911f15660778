-- Each way out is what the definition says there.
use Rattle.std.proofs.Common.{rules}
use Rattle.assembler.specs.Directives.{size_with_digit}
use Rattle.assembler.proofs.directives.with_digit.Goals as goal

pub returns-in_err-digit-clause-read : goal.returns-in_err-digit-clause-read
unfolding size_with_digit
returns-in_err-digit-clause-read c = search rules

pub returns-clause-read : goal.returns-clause-read
unfolding size_with_digit
returns-clause-read c = search rules
