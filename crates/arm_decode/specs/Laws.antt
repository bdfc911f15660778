-- The laws of the table, over the definitions alone.
use Rattle.std.specs.Prelude.{◌≡◌, ℕ, ◌<◌, ◌^◌, Ok, None}
use Rattle.arm_decode.specs.Decoded.{instruction_of_word}
use Rattle.arm_decode.specs.Diagrams.{word_of_instruction}
use Rattle.arm_decode.specs.Places.{sum_of_fields}
use Rattle.arm_decode.specs.Ranges.{FitsFields}
use Rattle.arm_decode.specs.Refusals.{refusal}
use Rattle.arm_decode.specs.Table.{rows_met}
use Rattle.arm_decode.specs.declared.action.Action.{Action}
use Rattle.arm_decode.specs.declared.condition.Condition.{Condition}

-- every word meets exactly one row, or one of the undefined patterns, or lies in the gap
abbrev pub RowsPartition : Type 0
RowsPartition = (word : ℕ) → rows_met word ≡ 1

-- the instruction that a word is, is spelled by that word
abbrev pub WordsComeBack : Type 0
WordsComeBack = (word : ℕ) (i : Condition × Action) → word < 2 ^ 32 → instruction_of_word word ≡ Ok i →
    word_of_instruction i ≡ word

-- the word that spells an instruction is that instruction
abbrev pub InstructionsComeBack : Type 0
InstructionsComeBack = (i : Condition × Action) → FitsFields i.1 → refusal i.1 ≡ None →
    instruction_of_word (word_of_instruction i) ≡ Ok i

-- the word of an instruction is the sum of its fields, each of which fits its place
abbrev pub FieldsHavePlaces : Type 0
FieldsHavePlaces =
    (word : ℕ) (i : Condition × Action) → word < 2 ^ 32 → instruction_of_word word ≡ Ok i →
    (word ≡ sum_of_fields i.0 i.1) × FitsFields i.1
