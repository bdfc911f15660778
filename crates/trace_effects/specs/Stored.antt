-- The words that an instruction stores to (ARM2 data sheet, "Single data transfer" and "Block data
-- transfer"): STR the word that its address lies in, STRB a byte of that word, STM one word for each
-- register of its list.
use Rattle.std.specs.Prelude.{Result, Ok, Err, if◌then◌else◌}
use Rattle.profile.specs.Fault.{Fault}
use Rattle.arm_step.specs.Bytes.{word_start}
use Rattle.arm_decode.specs.Decoded.{instruction_of_word}
use Rattle.arm_decode.specs.declared.action.Action.{Action}
use Rattle.arm_decode.specs.declared.action.Action.TheVariants as action
use Rattle.arm_decode.specs.declared.action.BlockTransfer.{BlockTransfer}
use Rattle.arm_decode.specs.declared.action.Transfer.{Transfer}
use Rattle.arm_decode.specs.declared.condition.Condition.{Condition}
use Rattle.arm_core.specs.State.{State}
use Rattle.arm_step.specs.Blocks.{block_start, transferred_count}
use Rattle.arm_step.specs.Transfers.{transfer_address}
use Rattle.trace_effects.specs.declared.cause.Cause.{Cause}
use Rattle.trace_effects.specs.declared.cause.Cause.TheVariants.{Word}
use Rattle.trace_effects.specs.declared.stored.StoredWords.{StoredWords}

abbrev pub no_words : StoredWords
no_words = record { at = 0; count = 0 }

-- the words that a transfer moves, whichever way
abbrev pub transfer_words : State → Transfer → StoredWords
transfer_words s t = record { at = word_start (transfer_address s t.address); count = 1 }

abbrev pub block_words : State → BlockTransfer → StoredWords
block_words s t = record { at = block_start s t; count = transferred_count t }

abbrev pub words_of_transfer : State → Transfer → StoredWords
words_of_transfer s t = if t.loads then no_words else transfer_words s t

abbrev pub words_of_block : State → BlockTransfer → StoredWords
words_of_block s t = if t.loads then no_words else block_words s t

abbrev pub words_of_action : State → Action → StoredWords
words_of_action s (action.Transfer t) = words_of_transfer s t
words_of_action s (action.BlockTransfer t) = words_of_block s t
words_of_action s _ = no_words

abbrev pub words_if_decoded : State → Result (Condition × Action) Fault → StoredWords
words_if_decoded s (Ok i) = words_of_action s i.1
words_if_decoded s (Err fault) = no_words

abbrev pub stored_words : Cause → State → StoredWords
stored_words (Word word) s = words_if_decoded s (instruction_of_word word)
stored_words _ s = no_words
