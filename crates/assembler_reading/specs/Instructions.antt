-- An instruction as it is written: a mnemonic, spaces and operands (ARM2 data sheet, "Assembler
-- syntax" of each instruction). A reader answers the instruction's word, or the reason why it has
-- none, and what follows. Of several reasons the first is an unknown label, then a number without a
-- form, then an address out of reach, then an instruction that would be refused when it runs.
use Rattle.std.specs.Prelude.{ℕ, Bool, ◌+◌, ◌-◌, ◌/◌, ◌%◌, ◌^◌, ◌==◌, ◌&&◌, nat_lt, List, Option, Some, None, is_some, Result, Ok, Err, if◌then◌else◌}
use Rattle.profile.specs.Fault.{Fault}
use Rattle.arm_decode.specs.Decoded.{instruction_unless_refused}
use Rattle.arm_decode.specs.Diagrams.{word_of_instruction}
use Rattle.arm_decode.specs.declared.action.Action.{Action}
use Rattle.arm_decode.specs.declared.action.Action.TheVariants as action
use Rattle.arm_decode.specs.declared.condition.Condition.{Condition}
use Rattle.assembler_text.specs.naming.Expressions.{Lookup, Value, expression, sign}
use Rattle.assembler_text.specs.naming.SwiNames.{swi_named}
use Rattle.assembler_text.specs.naming.Mnemonics.{mnemonic_named}
use Rattle.assembler_text.specs.naming.Words.{after_word, byte, spaces, word, ◌>>=◌}
use Rattle.assembler_text.specs.declared.naming.mnemonics.Command.{Command}
use Rattle.assembler_text.specs.declared.naming.mnemonics.Command.TheVariants as command
use Rattle.assembler_text.specs.declared.naming.reason.Reason.TheVariants.{UnknownLabel, BadImmediate, OutOfReach, Forbidden}
use Rattle.assembler_reading.specs.Addresses.{transfer_text_at}
use Rattle.assembler_reading.specs.Operands.{ReadOutcome}
use Rattle.assembler_reading.specs.Operating.{operate_at, multiply_at}
use Rattle.assembler_reading.specs.RegisterLists.{block_transfer_text_at}

-- a branch to a multiple of 4 below 2^26, as the number of words from the address plus 8, modulo
-- 2^24
abbrev pub branch_to : ℕ → Bool → Value → ReadOutcome Action
branch_to address links None = Err UnknownLabel
branch_to address links (Some target) =
    if target % 4 == 0 && nat_lt target (2 ^ 26)
    then Ok (action.Branch links ((2 ^ 33 + target - (address + 8)) / 4 % 2 ^ 24))
    else Err OutOfReach

abbrev pub branch_at : Lookup → ℕ → Bool → List ℕ → Option (ReadOutcome Action × List ℕ)
branch_at labels address links text = do
  target ← expression labels text
  Some (branch_to address links target.0, target.1)

-- a number of 24 bits
abbrev pub swi_action : Value → ReadOutcome Action
swi_action None = Err UnknownLabel
swi_action (Some n) = if nat_lt n (2 ^ 24) then Ok (action.SoftwareInterrupt n) else Err BadImmediate

-- the name of a call after a double quote (34), with another after it
abbrev pub quoted_call : List ℕ → Option (Value × List ℕ)
quoted_call text = do
  number ← swi_named (word text)
  rest ← byte 34 (after_word text)
  Some (Some number, rest)

-- a word that names a call, unless `+` or `-` stands after it
abbrev pub plain_call : List ℕ → Option ℕ
plain_call text = if is_some (sign (after_word text)) then None else swi_named (word text)

abbrev pub call_or_number : Lookup → List ℕ → Option ℕ → Option (Value × List ℕ)
call_or_number labels text (Some number) = Some (Some number, after_word text)
call_or_number labels text None = expression labels text

-- a call by its name, which wins over a label of that name, or an expression
abbrev pub swi_number : Lookup → List ℕ → Option (List ℕ) → Option (Value × List ℕ)
swi_number labels text (Some after) = quoted_call after
swi_number labels text None = call_or_number labels text (plain_call text)

unfoldable pub swi_at : Lookup → List ℕ → Option (ReadOutcome Action × List ℕ)
swi_at labels text = do
  number ← swi_number labels text (byte 34 text)
  Some (swi_action number.0, number.1)

-- the operands that a mnemonic asks for
abbrev pub action_at : Lookup → ℕ → Command → List ℕ → Option (ReadOutcome Action × List ℕ)
action_at labels address (command.Operate what flag) text = operate_at labels what flag text
action_at labels address (command.Multiply adds sets) text = multiply_at adds sets text
action_at labels address (command.Transfer loading of_byte translates) text =
    transfer_text_at labels address loading of_byte translates text
action_at labels address (command.BlockTransfer loading way) text = block_transfer_text_at loading way text
action_at labels address (command.Branch links) text = branch_at labels address links text
action_at labels address command.SoftwareInterrupt text = swi_at labels text

abbrev pub word_unless : Result (Condition × Action) Fault → ReadOutcome ℕ
word_unless (Ok i) = Ok (word_of_instruction i)
word_unless (Err fault) = Err Forbidden

-- the word of what was read, if the instruction table has it
abbrev pub word_for : Condition → ReadOutcome Action → ReadOutcome ℕ
word_for c (Ok a) = word_unless (instruction_unless_refused (c, a))
word_for c (Err reason) = Err reason

-- the instruction at the front of a text that stands at an address
unfoldable pub instruction : Lookup → ℕ → List ℕ → Option (ReadOutcome ℕ × List ℕ)
instruction labels address text = do
  mnemonic ← mnemonic_named (word text)
  operands ← spaces (after_word text)
  done ← action_at labels address mnemonic.command operands
  Some (word_for mnemonic.condition done.0, done.1)
