-- The words that an instruction loads (ARM2 data sheet, "Single data transfer" and "Block data
-- transfer"): LDR the word that its address lies in, LDRB a byte of that word, LDM one word for each
-- register of its list. LDR off a boundary loads the word too, rotated.
use Rattle.std.specs.Prelude.{ℕ, Option, Some, None, Result, Ok, Err, if◌then◌else◌}
use Rattle.profile.specs.Fault.{Fault}
use Rattle.arm_decode.specs.Decoded.{instruction_of_word}
use Rattle.arm_decode.specs.declared.action.Action.{Action}
use Rattle.arm_decode.specs.declared.action.Action.TheVariants as action
use Rattle.arm_decode.specs.declared.action.BlockTransfer.{BlockTransfer}
use Rattle.arm_decode.specs.declared.action.Transfer.{Transfer}
use Rattle.arm_decode.specs.declared.condition.Condition.{Condition}
use Rattle.arm_core.specs.State.{State}
use Rattle.trace_effects.specs.Stored.{block_words, no_words, transfer_words}
use Rattle.trace_effects.specs.declared.cause.Cause.{Cause}
use Rattle.trace_effects.specs.declared.cause.Cause.TheVariants.{Word}
use Rattle.trace_effects.specs.declared.stored.StoredWords.{StoredWords}

abbrev pub loads_of_transfer : State → Transfer → StoredWords
loads_of_transfer s t = if t.loads then transfer_words s t else no_words

abbrev pub loads_of_block : State → BlockTransfer → StoredWords
loads_of_block s t = if t.loads then block_words s t else no_words

abbrev pub loads_of_action : State → Action → StoredWords
loads_of_action s (action.Transfer t) = loads_of_transfer s t
loads_of_action s (action.BlockTransfer t) = loads_of_block s t
loads_of_action s _ = no_words

abbrev pub loads_if_decoded : State → Result (Condition × Action) Fault → StoredWords
loads_if_decoded s (Ok i) = loads_of_action s i.1
loads_if_decoded s (Err fault) = no_words

abbrev pub loaded_words : Cause → State → StoredWords
loaded_words (Word word) s = loads_if_decoded s (instruction_of_word word)
loaded_words _ s = no_words

-- the register that LDR loads
abbrev pub register_of_transfer : Transfer → Option ℕ
register_of_transfer t = if t.loads then Some t.rd else None

abbrev pub register_of_action : Action → Option ℕ
register_of_action (action.Transfer t) = register_of_transfer t
register_of_action _ = None

abbrev pub register_if_decoded : Result (Condition × Action) Fault → Option ℕ
register_if_decoded (Ok i) = register_of_action i.1
register_if_decoded (Err fault) = None

abbrev pub loaded_register : Cause → Option ℕ
loaded_register (Word word) = register_if_decoded (instruction_of_word word)
loaded_register _ = None
