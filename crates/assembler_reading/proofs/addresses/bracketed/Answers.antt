-- Each way out is what the definition says there.
use Rattle.std.proofs.Common.{rules}
use Rattle.assembler_reading.specs.Addresses.{address_after_bracket}
use Rattle.assembler_reading.proofs.addresses.bracketed.Goals as goal

pub returns-in_default : goal.returns-in_default
unfolding address_after_bracket
returns-in_default c = search rules

pub returns : goal.returns
unfolding address_after_bracket
returns c = search rules
