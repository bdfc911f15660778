-- Each way out is what the definition says there.
use Rattle.std.proofs.Common.{rules}
use Rattle.assembler_reading.specs.Operating.{multiply_at}
use Rattle.assembler_reading.proofs.operating.multiply_at.Goals as goal

pub returns-in_default : goal.returns-in_default
unfolding multiply_at
returns-in_default c = search rules

pub returns-in_err-comma : goal.returns-in_err-comma
unfolding multiply_at
returns-in_err-comma c = search rules

pub returns-in_default-register : goal.returns-in_default-register
unfolding multiply_at
returns-in_default-register c = search rules

pub returns-in_err-comma-2 : goal.returns-in_err-comma-2
unfolding multiply_at
returns-in_err-comma-2 c = search rules

pub returns-in_default-register-2 : goal.returns-in_default-register-2
unfolding multiply_at
returns-in_default-register-2 c = search rules

pub returns-in_default-added_register : goal.returns-in_default-added_register
unfolding multiply_at
returns-in_default-added_register c = search rules

pub returns : goal.returns
unfolding multiply_at
returns c = search rules
