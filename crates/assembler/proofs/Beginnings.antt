-- How printed instructions begin: with a letter, and with no directive's name.
use Rattle.std.proofs.Common.{◌≡◌, ℕ, Bool, true, false, List, ◌∷◌, ◌++◌, refl, ap, ◌∙◌}
use Rattle.std.specs.Prelude.{codes}
use Rattle.arm_decode.specs.declared.action.Action.{Action}
use Rattle.arm_decode.specs.declared.action.Action.TheVariants as action
use Rattle.arm_decode.specs.declared.condition.Condition.{Condition}
use Rattle.arm_decode.specs.declared.operation.Operation.{Operation}
use Rattle.arm_decode.specs.declared.operation.Operation.TheVariants as operation
use Rattle.assembler_reading.specs.AssemblerTextNames.{choose_text, operation_text}
use Rattle.assembler_reading.specs.Printing.{action_text, branch_text, swi_text, multiply_head, operate_head}
use Rattle.assembler_reading.specs.Transfers.{block_head, transfer_head}
use Rattle.assembler_reading.specs.Words.{after_spaces, is_word_byte, word}
use Rattle.assembler.specs.Directives.{directive_named}
use Rattle.assembler.proofs.PrintedLines.{BeginsInstruction, word_onto}

two_letters : (x y : ℕ) (rest : List ℕ) → is_word_byte x ≡ true → is_word_byte y ≡ true → word (x ∷ y ∷ rest) ≡ x ∷ y ∷ word rest
two_letters x y rest h k = word_onto x (y ∷ rest) h ∙ ap (λ (text : List ℕ). x ∷ text) (word_onto y rest k)

operation_begins : (o : Operation) (front rest : List ℕ) → BeginsInstruction ((operation_text o ++ front) ++ rest)
unfolding after_spaces
operation_begins operation.And front rest = record { no_space = refl; no_comment = refl; no_directive = ap directive_named (two_letters 65 78 (68 ∷ (front ++ rest)) refl refl) }
operation_begins operation.ExclusiveOr front rest = record { no_space = refl; no_comment = refl; no_directive = ap directive_named (two_letters 69 79 (82 ∷ (front ++ rest)) refl refl) }
operation_begins operation.Subtract front rest = record { no_space = refl; no_comment = refl; no_directive = ap directive_named (two_letters 83 85 (66 ∷ (front ++ rest)) refl refl) }
operation_begins operation.ReverseSubtract front rest = record { no_space = refl; no_comment = refl; no_directive = ap directive_named (two_letters 82 83 (66 ∷ (front ++ rest)) refl refl) }
operation_begins operation.Add front rest = record { no_space = refl; no_comment = refl; no_directive = ap directive_named (two_letters 65 68 (68 ∷ (front ++ rest)) refl refl) }
operation_begins operation.AddWithCarry front rest = record { no_space = refl; no_comment = refl; no_directive = ap directive_named (two_letters 65 68 (67 ∷ (front ++ rest)) refl refl) }
operation_begins operation.SubtractWithCarry front rest = record { no_space = refl; no_comment = refl; no_directive = ap directive_named (two_letters 83 66 (67 ∷ (front ++ rest)) refl refl) }
operation_begins operation.ReverseSubtractWithCarry front rest = record { no_space = refl; no_comment = refl; no_directive = ap directive_named (two_letters 82 83 (67 ∷ (front ++ rest)) refl refl) }
operation_begins operation.Test front rest = record { no_space = refl; no_comment = refl; no_directive = ap directive_named (two_letters 84 83 (84 ∷ (front ++ rest)) refl refl) }
operation_begins operation.TestEquivalence front rest = record { no_space = refl; no_comment = refl; no_directive = ap directive_named (two_letters 84 69 (81 ∷ (front ++ rest)) refl refl) }
operation_begins operation.Compare front rest = record { no_space = refl; no_comment = refl; no_directive = ap directive_named (two_letters 67 77 (80 ∷ (front ++ rest)) refl refl) }
operation_begins operation.CompareNegated front rest = record { no_space = refl; no_comment = refl; no_directive = ap directive_named (two_letters 67 77 (78 ∷ (front ++ rest)) refl refl) }
operation_begins operation.Or front rest = record { no_space = refl; no_comment = refl; no_directive = ap directive_named (two_letters 79 82 (82 ∷ (front ++ rest)) refl refl) }
operation_begins operation.Move front rest = record { no_space = refl; no_comment = refl; no_directive = ap directive_named (two_letters 77 79 (86 ∷ (front ++ rest)) refl refl) }
operation_begins operation.BitClear front rest = record { no_space = refl; no_comment = refl; no_directive = ap directive_named (two_letters 66 73 (67 ∷ (front ++ rest)) refl refl) }
operation_begins operation.MoveNot front rest = record { no_space = refl; no_comment = refl; no_directive = ap directive_named (two_letters 77 86 (78 ∷ (front ++ rest)) refl refl) }

multiply_begins : (b : Bool) (front rest : List ℕ) → BeginsInstruction ((choose_text b (codes "MLA") (codes "MUL") ++ front) ++ rest)
unfolding after_spaces
multiply_begins true front rest = record { no_space = refl; no_comment = refl; no_directive = ap directive_named (two_letters 77 76 (65 ∷ (front ++ rest)) refl refl) }
multiply_begins false front rest = record { no_space = refl; no_comment = refl; no_directive = ap directive_named (two_letters 77 85 (76 ∷ (front ++ rest)) refl refl) }

transfer_begins : (b : Bool) (front rest : List ℕ) → BeginsInstruction ((choose_text b (codes "LDR") (codes "STR") ++ front) ++ rest)
unfolding after_spaces
transfer_begins true front rest = record { no_space = refl; no_comment = refl; no_directive = ap directive_named (two_letters 76 68 (82 ∷ (front ++ rest)) refl refl) }
transfer_begins false front rest = record { no_space = refl; no_comment = refl; no_directive = ap directive_named (two_letters 83 84 (82 ∷ (front ++ rest)) refl refl) }

block_begins : (b : Bool) (front rest : List ℕ) → BeginsInstruction ((choose_text b (codes "LDM") (codes "STM") ++ front) ++ rest)
unfolding after_spaces
block_begins true front rest = record { no_space = refl; no_comment = refl; no_directive = ap directive_named (two_letters 76 68 (77 ∷ (front ++ rest)) refl refl) }
block_begins false front rest = record { no_space = refl; no_comment = refl; no_directive = ap directive_named (two_letters 83 84 (77 ∷ (front ++ rest)) refl refl) }

branch_begins : (b : Bool) (front : List ℕ) → BeginsInstruction (choose_text b (codes "BL") (codes "B") ++ front)
unfolding after_spaces
branch_begins true front = record { no_space = refl; no_comment = refl; no_directive = ap directive_named (word_onto 66 (76 ∷ front) refl) }
branch_begins false front = record { no_space = refl; no_comment = refl; no_directive = ap directive_named (word_onto 66 front refl) }

swi_begins : (rest : List ℕ) → BeginsInstruction (codes "SWI" ++ rest)
unfolding after_spaces
swi_begins rest = record { no_space = refl; no_comment = refl; no_directive = ap directive_named (two_letters 83 87 (73 ∷ (rest)) refl refl) }

pub instruction_begins : (address : ℕ) (c : Condition) (a : Action) → BeginsInstruction (action_text address c a)
instruction_begins address c (action.Operate o) = operation_begins o.operation _ _
instruction_begins address c (action.Multiply m) = multiply_begins m.accumulates _ _
instruction_begins address c (action.Transfer t) = transfer_begins t.loads _ _
instruction_begins address c (action.BlockTransfer b) = block_begins b.loads _ _
instruction_begins address c (action.Branch links distance) = branch_begins links _
instruction_begins address c (action.SoftwareInterrupt number) = swi_begins _
