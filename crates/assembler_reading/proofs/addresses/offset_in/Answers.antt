-- Each way out is what the definition says there.
use Rattle.std.proofs.Common.{rules}
use Rattle.assembler_reading.specs.Addresses.{offset_in}
use Rattle.assembler_reading.proofs.addresses.offset_in.Goals as goal

pub returns-in-Some : goal.returns-in-Some
unfolding offset_in
returns-in-Some c = search rules

pub returns-in-None : goal.returns-in-None
unfolding offset_in
returns-in-None c = search rules
