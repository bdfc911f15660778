-- What is known of a word whose form and fields the table allows.
use Rattle.std.proofs.Common.{◌≡◌, ◌<◌, ◌+◌, ◌-◌, ◌*◌, ◌%◌, ◌^◌, ◌&&◌, ℕ, Bool, true, false, not, nat_eq, Result, Ok, Option, None, ap, subst, sym, ◌∙◌, refl, if◌then◌else◌}
use Rattle.arm_core.specs.Shifted.{rotated_right}
use Rattle.arm_core.specs.Word.{bit_of, field}
use Rattle.arm_core.specs.Fault.{Fault}
use Rattle.arm_core.specs.Decoded.{instruction_of_word, decoded_as, unless_refused}
use Rattle.arm_core.specs.Fields.{condition_in, action_in, immediate_in, operate_in, shifted_in, transfer_in}
use Rattle.arm_core.specs.Names.{shift_of}
use Rattle.arm_core.specs.Refusals.{refusal, is_test}
use Rattle.arm_core.specs.Table.{form_of}
use Rattle.arm_core.specs.Action.{Action}
use Rattle.arm_core.specs.Action.TheVariants as action
use Rattle.arm_core.specs.ArmDecodeOperate.{Operate}
use Rattle.arm_core.specs.Transfer.{Transfer}
use Rattle.arm_core.specs.Indexing.{Indexing}
use Rattle.arm_core.specs.Offset.{Offset}
use Rattle.arm_core.specs.Offset.TheVariants as offset
use Rattle.arm_core.specs.Condition.{Condition}
use Rattle.arm_core.specs.Condition.TheVariants as condition
use Rattle.arm_core.specs.Form.{Form}
use Rattle.arm_core.specs.Form.TheVariants as form
use Rattle.arm_core.specs.ArmDecodeOperand.{Operand}
use Rattle.arm_core.specs.ArmDecodeOperand.TheVariants as operand
use Rattle.arm_core.specs.Shift.{Shift}
use Rattle.arm_core.specs.Shift.TheVariants as shift
use Rattle.arm_predecode.specs.Kinds.{Does, OperatesPlainly, OperatesByImmediate, OperatesByRegister, OperatesByShift, Branches, Transfers, TransfersByNumber, TransfersByRegister}
use Rattle.arm_predecode.specs.OpValue.{OpValue}

pub does : (c : Condition) (f : Form) (r : OpValue) → form_of r.word ≡ Ok f → condition_in r.word ≡ c → refusal (action_in f r.word) ≡ None → Does c (action_in f r.word) r
unfolding instruction_of_word
does c f r has under allowed = record {
  condition = under;
  instruction = ap (λ (x : Result Form Fault). decoded_as x r.word) has
      ∙ ap (λ (x : Option Fault). unless_refused x (condition_in r.word, action_in f r.word)) allowed
      ∙ ap (λ (x : Condition). let i : Result (Condition × Action) Fault = Ok (x, action_in f r.word) in i) under;
}

pub branches : (c : Condition) (links : Bool) (r : OpValue) → form_of r.word ≡ Ok form.Branch → c ≡ condition_in r.word → bit_of r.word 24 ≡ links
    → r.value ≡ (field r.word 0 24 + 2) % 2 ^ 24 → Branches c links r
branches c links r has under links_by value = record {
  does = subst (λ (x : Bool). Does c (action.Branch x (field r.word 0 24)) r) links_by (does c form.Branch r has (sym under) refl);
  value = value;
}

pub interrupts : (r : OpValue) → form_of r.word ≡ Ok form.SoftwareInterrupt → condition_in r.word ≡ condition.Always
    → Does condition.Always (action.SoftwareInterrupt (field r.word 0 24)) r
interrupts r has always = does condition.Always form.SoftwareInterrupt r has always refl

-- data processing by fields that are read and allowed
operates : (f : Form) (second : Operand) (o : Operate) (r : OpValue) → form_of r.word ≡ Ok f → condition_in r.word ≡ condition.Always → action_in f r.word ≡ action.Operate (operate_in second r.word)
    → o ≡ operate_in second r.word → refusal (action.Operate o) ≡ None → o.rd < 15 → o.rn < 15 → (is_test o.operation && not o.sets_flags) ≡ false → r.rd ≡ o.rd → r.rn ≡ o.rn
    → OperatesPlainly o.operation o.sets_flags second r
operates f second o r has always acts fields allowed rd rn places rd_is rn_is =
    let allowed_so : refusal (action_in f r.word) ≡ None =
    ap (λ (a : Action). refusal a) (acts ∙ ap (λ (x : Operate). action.Operate x) (sym fields)) ∙ allowed in
    record {
      does = subst (λ (a : Action). Does condition.Always a r) acts (does condition.Always f r has always allowed_so);
      operation = ap (λ (x : Operate). x.operation) (sym fields);
      flags = ap (λ (x : Operate). x.sets_flags) (sym fields);
      places = places;
      rd = rd_is ∙ ap (λ (x : Operate). x.rd) fields;
      rd_below = subst (λ (n : ℕ). n < 15) (sym rd_is) rd;
      rn = rn_is ∙ ap (λ (x : Operate). x.rn) fields;
      rn_below = subst (λ (n : ℕ). n < 15) (sym rn_is) rn;
    }

pub by_immediate : (o : Operate) (r : OpValue) → form_of r.word ≡ Ok form.Immediate → condition_in r.word ≡ condition.Always
    → o ≡ operate_in (immediate_in r.word) r.word → refusal (action.Operate o) ≡ None → o.rd < 15 → o.rn < 15 → (is_test o.operation && not o.sets_flags) ≡ false → r.rd ≡ o.rd → r.rn ≡ o.rn
    → r.value ≡ rotated_right (field r.word 0 8) (2 * field r.word 8 4) → r.is_rotated ≡ not (nat_eq (field r.word 8 4) 0)
    → OperatesByImmediate o.operation o.sets_flags r
by_immediate o r has always fields allowed rd rn places rd_is rn_is value rotated = record {
  operates = operates form.Immediate (immediate_in r.word) o r has always refl fields allowed rd rn places rd_is rn_is;
  value = value;
  rotated = rotated;
}

pub by_register : (o : Operate) (r : OpValue) → form_of r.word ≡ Ok form.ShiftByNumber → condition_in r.word ≡ condition.Always
    → o ≡ operate_in (operand.Shifted (shifted_in r.word)) r.word → refusal (action.Operate o) ≡ None → o.rd < 15 → o.rn < 15 → (is_test o.operation && not o.sets_flags) ≡ false → r.rd ≡ o.rd → r.rn ≡ o.rn
    → r.rm ≡ field r.word 0 4 → field r.word 0 4 < 15 → field r.word 7 5 ≡ 0 → shift_of (field r.word 5 2) ≡ shift.LogicalLeft
    → OperatesByRegister o.operation o.sets_flags r
by_register o r has always fields allowed rd rn places rd_is rn_is rm_is rm amount kind = record {
  operates = operates form.ShiftByNumber (operand.Shifted (shifted_in r.word)) o r has always refl fields allowed rd rn places rd_is rn_is;
  rm = rm_is;
  rm_below = subst (λ (n : ℕ). n < 15) (sym rm_is) rm;
  amount = amount;
  shift = kind;
}

pub by_shift : (o : Operate) (r : OpValue) → form_of r.word ≡ Ok form.ShiftByNumber → condition_in r.word ≡ condition.Always
    → o ≡ operate_in (operand.Shifted (shifted_in r.word)) r.word → refusal (action.Operate o) ≡ None → o.rd < 15 → o.rn < 15 → (is_test o.operation && not o.sets_flags) ≡ false → r.rd ≡ o.rd → r.rn ≡ o.rn
    → r.rm ≡ field r.word 0 4 → field r.word 0 4 < 15 → r.value ≡ field r.word 7 5 → 0 < field r.word 7 5 → r.value < 32 → r.shift ≡ shift_of (field r.word 5 2)
    → OperatesByShift o.operation o.sets_flags r
by_shift o r has always fields allowed rd rn places rd_is rn_is rm_is rm value some below kind = record {
  operates = operates form.ShiftByNumber (operand.Shifted (shifted_in r.word)) o r has always refl fields allowed rd rn places rd_is rn_is;
  rm = rm_is;
  rm_below = subst (λ (n : ℕ). n < 15) (sym rm_is) rm;
  amount = value;
  some = subst (λ (n : ℕ). 0 < n) (sym value) some;
  below = below;
  shift = kind;
}

transfers : (f : Form) (by : Offset) (o : Transfer) (r : OpValue) → form_of r.word ≡ Ok f → condition_in r.word ≡ condition.Always → action_in f r.word ≡ action.Transfer (transfer_in by r.word)
    → o ≡ transfer_in by r.word → refusal (action.Transfer o) ≡ None → o.rd < 15 → o.address.rn < 15 → r.rd ≡ o.rd → r.rn ≡ o.address.rn
    → Transfers o.loads o.is_byte o.address.indexing by r
transfers f by o r has always acts fields allowed rd rn rd_is rn_is =
    let allowed_so : refusal (action_in f r.word) ≡ None =
    ap (λ (a : Action). refusal a) (acts ∙ ap (λ (x : Transfer). action.Transfer x) (sym fields)) ∙ allowed in
    record {
      does = subst (λ (a : Action). Does condition.Always a r) acts (does condition.Always f r has always allowed_so);
      loads = ap (λ (x : Transfer). x.loads) (sym fields);
      bytes = ap (λ (x : Transfer). x.is_byte) (sym fields);
      indexing = ap (λ (x : Transfer). x.address.indexing) (sym fields);
      rd = rd_is ∙ ap (λ (x : Transfer). x.rd) fields;
      rd_below = subst (λ (n : ℕ). n < 15) (sym rd_is) rd;
      rn = rn_is ∙ ap (λ (x : Transfer). x.address.rn) fields;
      rn_below = subst (λ (n : ℕ). n < 15) (sym rn_is) rn;
    }

pub by_number : (o : Transfer) (r : OpValue) → form_of r.word ≡ Ok form.OffsetByNumber → condition_in r.word ≡ condition.Always
    → o ≡ transfer_in (offset.Immediate (field r.word 0 12)) r.word → refusal (action.Transfer o) ≡ None → o.rd < 15 → o.address.rn < 15 → r.rd ≡ o.rd → r.rn ≡ o.address.rn
    → r.value ≡ (if bit_of r.word 23 then field r.word 0 12 else (2 ^ 32 - field r.word 0 12) % 2 ^ 32)
    → TransfersByNumber o.loads o.is_byte o.address.indexing r
by_number o r has always fields allowed rd rn rd_is rn_is value = record {
  transfers = transfers form.OffsetByNumber (offset.Immediate (field r.word 0 12)) o r has always refl fields allowed rd rn rd_is rn_is;
  value = value;
}

pub by_offset : (o : Transfer) (r : OpValue) → form_of r.word ≡ Ok form.OffsetByRegister → condition_in r.word ≡ condition.Always
    → o ≡ transfer_in (offset.Shifted (shifted_in r.word)) r.word → refusal (action.Transfer o) ≡ None → o.rd < 15 → o.address.rn < 15 → r.rd ≡ o.rd → r.rn ≡ o.address.rn
    → bit_of r.word 23 ≡ true → r.rm ≡ field r.word 0 4 → field r.word 0 4 < 15 → r.value ≡ field r.word 7 5 → r.value < 32 → shift_of (field r.word 5 2) ≡ shift.LogicalLeft
    → TransfersByRegister o.loads o.is_byte o.address.indexing r
by_offset o r has always fields allowed rd rn rd_is rn_is up rm_is rm value below kind = record {
  transfers = transfers form.OffsetByRegister (offset.Shifted (shifted_in r.word)) o r has always refl fields allowed rd rn rd_is rn_is;
  up = up;
  rm = rm_is;
  rm_below = subst (λ (n : ℕ). n < 15) (sym rm_is) rm;
  amount = value;
  below = below;
  shift = kind;
}
