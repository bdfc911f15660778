-- Each way out is what the definition says there.
use Rattle.std.proofs.Common.{rules}
use Rattle.assembler_reading.specs.Addresses.{transfer_text_at}
use Rattle.assembler_reading.proofs.addresses.transfer_at.Goals as goal

pub returns-in_default : goal.returns-in_default
unfolding transfer_text_at
returns-in_default c = search rules

pub returns-in_err-comma : goal.returns-in_err-comma
unfolding transfer_text_at
returns-in_err-comma c = search rules

pub returns-in_default-address_at : goal.returns-in_default-address_at
unfolding transfer_text_at
returns-in_default-address_at c = search rules

pub returns : goal.returns
unfolding transfer_text_at
returns c = search rules
