-- The text of each word is read as that word.
use Rattle.std.proofs.Common.{◌≡◌, ◌<◌, ◌%◌, ◌^◌, ℕ, List, [], ◌∷◌, ◌++◌, Some, None, Ok, Err, refl, subst}
use Rattle.std.proofs.lemmas.List.{append-nil}
use Rattle.std.specs.Prelude.{codes}
use Rattle.profile.specs.Digits.{hex_word}
use Rattle.profile.specs.Fault.{Fault}
use Rattle.arm_decode.specs.Decoded.{instruction_of_word}
use Rattle.arm_decode.specs.Diagrams.{word_of_instruction}
use Rattle.arm_decode.specs.Ranges.{FitsFields}
use Rattle.arm_decode.specs.Refusals.{refusal}
use Rattle.arm_decode.specs.declared.action.Action.{Action}
use Rattle.arm_decode.specs.declared.action.Action.TheVariants as action
use Rattle.arm_decode.specs.declared.condition.Condition.{Condition}
use Rattle.arm_decode.proofs.Placed.{fields_have_places}
use Rattle.arm_decode.proofs.Taken.{word_comes_back}
use Rattle.assembler_text.specs.Printing.{action_text, data_text, print}
use Rattle.assembler_text.specs.naming.Expressions.{Lookup, expression}
use Rattle.assembler_reading.specs.Instructions.{instruction}
use Rattle.assembler_reading.specs.Laws.{InstructionsAreReadAgain, DataIsReadAgain}
use Rattle.assembler_reading.proofs.AddressesAgain.{transfer_is_read}
use Rattle.assembler_reading.proofs.BlocksAgain.{block_is_read}
use Rattle.assembler_reading.proofs.InstructionsAgain.{allowed, branch_is_read, swi_is_read, multiply_is_read, operate_is_read}
use Rattle.assembler_reading.proofs.Numbers.{word_again}
use Rattle.assembler_reading.proofs.Pieces.{ends_nothing}

action_again : (labels : Lookup) (address w : ℕ) (c : Condition) (a : Action) → address % 4 ≡ 0 → address < 2 ^ 26 → FitsFields a
    → refusal a ≡ None → word_of_instruction (c, a) ≡ w → instruction labels address (action_text address c a) ≡ Some (Ok w, [])
action_again labels address w c (action.Operate o) even low fits free same = operate_is_read labels address w c o fits free same
action_again labels address w c (action.Multiply m) even low fits free same = multiply_is_read labels address w c m fits free same
action_again labels address w c (action.Transfer t) even low fits free same = transfer_is_read labels address w c t fits free same
action_again labels address w c (action.BlockTransfer b) even low fits free same = block_is_read labels address w c b fits free same
action_again labels address w c (action.Branch links d) even low fits free same = branch_is_read labels address w c links d even low fits free same
action_again labels address w c (action.SoftwareInterrupt n) even low fits free same = swi_is_read labels address w c n fits free same

pub instructions_are_read_again : InstructionsAreReadAgain
unfolding print
instructions_are_read_again labels w address i small even low e =
    rw e (action_again labels address w i.0 i.1 even low (fields_have_places w i small e).1 (allowed w i e) (word_comes_back w i small e))

word_alone : (labels : Lookup) (w : ℕ) → w < 2 ^ 32 → expression labels (38 ∷ hex_word w) ≡ Some (Some w, [])
word_alone labels w small =
    subst (λ (digits : List ℕ). expression labels (38 ∷ digits) ≡ Some (Some w, [])) (append-nil (hex_word w))
    (word_again labels w [] small ends_nothing.apart ends_nothing.no_sign)

data_shape : (w address : ℕ) (f : Fault) → instruction_of_word w ≡ Err f → print w address ≡ codes "DCD " ++ (38 ∷ hex_word w)
unfolding print
data_shape w address f e = rw e refl

pub data_is_read_again : DataIsReadAgain
data_is_read_again labels w address f small e = (data_shape w address f e, word_alone labels w small)
