-- What follows after an instruction is the same under all labels, and so is whether there is one.
use Rattle.std.proofs.Common.{◌≡◌, ℕ, List, Option, Some, None, refl}
use Rattle.assembler_reading.specs.Expressions.{Lookup}
use Rattle.assembler_reading.specs.Mnemonics.{mnemonic_named}
use Rattle.assembler_reading.specs.Words.{after_word, byte, spaces, word}
use Rattle.assembler_reading.specs.Command.{Command}
use Rattle.assembler_reading.specs.Command.TheVariants as command
use Rattle.assembler_reading.specs.Instructions.{action_at, branch_to, call_or_number, instruction, plain_call, swi_at, swi_number}
use Rattle.assembler.proofs.AssembledLemmas.OperandRests.{operate_rests, rests_behind, transfer_rests}
use Rattle.assembler.proofs.AssembledLemmas.Rests.{expression_rests, made_rests, rest_of, rests_then}

swi_rests : (k l : Lookup) (text : List ℕ) → rest_of (swi_at k text) ≡ rest_of (swi_at l text)
unfolding swi_at
swi_rests k l text = rests_then (swi_number k text (byte 34 text)) (swi_number l text (byte 34 text)) _ _ (by (byte 34 text)) (λ a b rest. refl)
  where
    call : (o : Option ℕ) → rest_of (call_or_number k text o) ≡ rest_of (call_or_number l text o)
    call (Some n) = refl
    call None = expression_rests k l text

    by : (o : Option (List ℕ)) → rest_of (swi_number k text o) ≡ rest_of (swi_number l text o)
    by (Some after) = refl
    by None = call (plain_call text)

action_rests : (k l : Lookup) (address : ℕ) (c : Command) (text : List ℕ) → rest_of (action_at k address c text) ≡ rest_of (action_at l address c text)
action_rests k l address (command.Operate what flag) text = operate_rests k l what flag text
action_rests k l address (command.Multiply adds sets) text = refl
action_rests k l address (command.Transfer loading of_byte translates) text = transfer_rests k l address loading of_byte translates text
action_rests k l address (command.BlockTransfer loading way) text = refl
action_rests k l address (command.Branch links) text = made_rests k l (branch_to address links) (branch_to address links) text
action_rests k l address command.SoftwareInterrupt text = swi_rests k l text

pub instruction_rests : (k l : Lookup) (address : ℕ) (text : List ℕ) → rest_of (instruction k address text) ≡ rest_of (instruction l address text)
unfolding instruction
instruction_rests k l address text = rests_behind (mnemonic_named (word text)) _ _ (λ m. rests_behind (spaces (after_word text)) _ _ (λ operands.
    rests_then (action_at k address m.command operands) (action_at l address m.command operands) _ _ (action_rests k l address m.command operands) (λ a b rest. refl)))
