-- Each way out is what the definition says there.
use Rattle.std.proofs.Common.{rules}
use Rattle.assembler_reading.specs.RegisterLists.{block_transfer_text_at}
use Rattle.assembler_reading.proofs.register_lists.block_at.Goals as goal

pub returns-in_default : goal.returns-in_default
unfolding block_transfer_text_at
returns-in_default c = search rules

pub returns-in_err-comma : goal.returns-in_err-comma
unfolding block_transfer_text_at
returns-in_err-comma c = search rules

pub returns-in_default-register_list : goal.returns-in_default-register_list
unfolding block_transfer_text_at
returns-in_default-register_list c = search rules

pub returns : goal.returns
unfolding block_transfer_text_at
returns c = search rules
