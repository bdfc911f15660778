-- The word of an instruction is the sum of its fields at their places, and what is cut from a word
-- fits its field.
use Rattle.std.proofs.Common.{◌≡◌, ℕ, ◌^◌, ◌<◌, arith, ◌∙◌, sym, Ok, subst}
use Rattle.arm_decode.proofs.Flags.{field-lt}
use Rattle.arm_decode.proofs.Taken.{taken, word_comes_back}
use Rattle.arm_decode.specs.Decoded.{instruction_of_word}
use Rattle.arm_decode.specs.Diagrams.{word_of_instruction}
use Rattle.arm_decode.specs.Fields.{action_in}
use Rattle.arm_decode.specs.Places.{sum_of_fields}
use Rattle.arm_decode.specs.Ranges.{FitsFields}
use Rattle.arm_decode.specs.declared.action.Action.{Action}
use Rattle.arm_decode.specs.declared.action.Action.TheVariants as action
use Rattle.arm_decode.specs.declared.action.Operate.{Operate}
use Rattle.arm_decode.specs.declared.action.Transfer.{Transfer}
use Rattle.arm_decode.specs.declared.address.Offset.{Offset}
use Rattle.arm_decode.specs.declared.address.Offset.TheVariants as offset
use Rattle.arm_decode.specs.declared.condition.Condition.{Condition}
use Rattle.arm_decode.specs.declared.form.Form.{Form}
use Rattle.arm_decode.specs.declared.form.Form.TheVariants as form
use Rattle.arm_decode.specs.declared.operand.Operand.{Operand}
use Rattle.arm_decode.specs.declared.operand.Operand.TheVariants as operand

abbrev operate_with : Operate → Operand → Action
operate_with o second = action.Operate (record o { operand = second })

abbrev transfer_with : Transfer → Offset → Action
transfer_with t by = action.Transfer (record t { address = record t.address { offset = by } })

word_of-operate : (c : Condition) (o : Operate) (second : Operand)
    → word_of_instruction (c, operate_with o second) ≡ sum_of_fields c (operate_with o second)
word_of-operate c o (operand.Immediate rotation byte) = omega arith
word_of-operate c o (operand.Shifted s) = omega arith
word_of-operate c o (operand.ShiftedByRegister rm shift rs) = omega arith

word_of-transfer : (c : Condition) (t : Transfer) (by : Offset)
    → word_of_instruction (c, transfer_with t by) ≡ sum_of_fields c (transfer_with t by)
word_of-transfer c t (offset.Immediate number) = omega arith
word_of-transfer c t (offset.Shifted s) = omega arith

pub word_of-sum : (c : Condition) (a : Action) → word_of_instruction (c, a) ≡ sum_of_fields c a
word_of-sum c (action.Operate o) = word_of-operate c o o.operand
word_of-sum c (action.Multiply m) = omega arith
word_of-sum c (action.Transfer t) = word_of-transfer c t t.address.offset
word_of-sum c (action.BlockTransfer b) = omega arith
word_of-sum c (action.Branch links distance) = omega arith
word_of-sum c (action.SoftwareInterrupt number) = omega arith

action_in-fits : (f : Form) (w : ℕ) → FitsFields (action_in f w)
action_in-fits form.Multiply w = (field-lt w 16 4, field-lt w 12 4, field-lt w 8 4, field-lt w 0 4)
action_in-fits form.ShiftByNumber w = (field-lt w 16 4, field-lt w 12 4, (field-lt w 0 4, field-lt w 7 5))
action_in-fits form.ShiftByRegister w = (field-lt w 16 4, field-lt w 12 4, (field-lt w 0 4, field-lt w 8 4))
action_in-fits form.Immediate w = (field-lt w 16 4, field-lt w 12 4, (field-lt w 8 4, field-lt w 0 8))
action_in-fits form.OffsetByNumber w = (field-lt w 12 4, field-lt w 16 4, field-lt w 0 12)
action_in-fits form.OffsetByRegister w = (field-lt w 12 4, field-lt w 16 4, (field-lt w 0 4, field-lt w 7 5))
action_in-fits form.BlockTransfer w = (field-lt w 16 4, field-lt w 0 16)
action_in-fits form.Branch w = field-lt w 0 24
action_in-fits form.SoftwareInterrupt w = field-lt w 0 24

pub fields_have_places : (w : ℕ) (i : Condition × Action) → w < 2 ^ 32 → instruction_of_word w ≡ Ok i → (w ≡ sum_of_fields i.0 i.1) × FitsFields i.1
fields_have_places w i h e =
    let t = taken w i e in (
      sym (word_comes_back w i h e) ∙ word_of-sum i.0 i.1,
      subst (λ (j : Condition × Action). FitsFields j.1) t.fields (action_in-fits t.form w),
    )
