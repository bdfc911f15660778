-- What is known of a word of LDM, STM, MUL and MLA, of MOV to R15, and of LDR from beside it.
use Rattle.std.proofs.Common.{◌≡◌, ◌<◌, ◌-◌, ◌*◌, ◌%◌, ◌^◌, ◌&&◌, ℕ, Bool, true, false, not, length, Ok, None, ap, subst, sym, ◌∙◌, refl, if◌then◌else◌}
use Rattle.arm_core.specs.Word.{bit_of, field}
use Rattle.arm_core.specs.Listed.{registers_of_list}
use Rattle.arm_core.specs.Fields.{action_in, block_transfer_in, condition_in, multiply_in, operate_in, shifted_in, transfer_in}
use Rattle.arm_core.specs.Names.{shift_of}
use Rattle.arm_core.specs.Refusals.{refusal}
use Rattle.arm_core.specs.Table.{form_of}
use Rattle.arm_core.specs.Action.{Action}
use Rattle.arm_core.specs.Action.TheVariants as action
use Rattle.arm_core.specs.BlockTransfer.{BlockTransfer}
use Rattle.arm_core.specs.Multiply.{Multiply}
use Rattle.arm_core.specs.ArmDecodeOperate.{Operate}
use Rattle.arm_core.specs.Transfer.{Transfer}
use Rattle.arm_core.specs.Indexing.TheVariants as indexing
use Rattle.arm_core.specs.Offset.TheVariants as offset
use Rattle.arm_core.specs.Condition.TheVariants as condition
use Rattle.arm_core.specs.Form.{Form}
use Rattle.arm_core.specs.Form.TheVariants as form
use Rattle.arm_core.specs.ArmDecodeOperand.TheVariants as operand
use Rattle.arm_core.specs.Operation.TheVariants as operation
use Rattle.arm_core.specs.Shift.TheVariants as shift
use Rattle.arm_predecode.specs.Kinds.{Does, goes_up, gap_below, LoadsBeside, MovesBlock, MovesToPc, MultipliesPlainly}
use Rattle.arm_predecode.specs.OpValue.{OpValue}
use Rattle.arm_predecode.proofs.Known.{does}

-- what the fields say of an action that the table allows
does_so : (f : Form) (a : Action) (r : OpValue) → form_of r.word ≡ Ok f → condition_in r.word ≡ condition.Always → a ≡ action_in f r.word → refusal a ≡ None → Does condition.Always (action_in f r.word) r
does_so f a r has always is allowed = does condition.Always f r has always (ap (λ (x : Action). refusal x) (sym is) ∙ allowed)

pub by_product : (m : Multiply) (r : OpValue) → form_of r.word ≡ Ok form.Multiply → condition_in r.word ≡ condition.Always → m ≡ multiply_in r.word
    → refusal (action.Multiply m) ≡ None → m.sets_flags ≡ false → m.rd < 15 → m.rn < 15 → m.rs < 15 → m.rm < 15 → r.rd ≡ m.rn → r.rn ≡ m.rd → r.rm ≡ m.rm → r.rs ≡ m.rs
    → MultipliesPlainly m.accumulates r
by_product m r has always fields allowed flags rd rn rs rm added product left right = record {
  does = does_so form.Multiply (action.Multiply m) r has always (ap (λ (x : Multiply). action.Multiply x) fields) allowed;
  accumulates = ap (λ (x : Multiply). x.accumulates) (sym fields);
  flags = ap (λ (x : Multiply). x.sets_flags) (sym fields) ∙ flags;
  rd = added ∙ ap (λ (x : Multiply). x.rn) fields;
  rd_below = subst (λ (n : ℕ). n < 15) (sym added) rn;
  rn = product ∙ ap (λ (x : Multiply). x.rd) fields;
  rn_below = subst (λ (n : ℕ). n < 15) (sym product) rd;
  rm = left ∙ ap (λ (x : Multiply). x.rm) fields;
  rm_below = subst (λ (n : ℕ). n < 15) (sym left) rm;
  rs = right ∙ ap (λ (x : Multiply). x.rs) fields;
  rs_below = subst (λ (n : ℕ). n < 15) (sym right) rs;
}

pub by_move : (o : Operate) (r : OpValue) → form_of r.word ≡ Ok form.ShiftByNumber → condition_in r.word ≡ condition.Always
    → o ≡ operate_in (operand.Shifted (shifted_in r.word)) r.word → refusal (action.Operate o) ≡ None → o.operation ≡ operation.Move → o.rd ≡ 15 → r.rm ≡ field r.word 0 4 → field r.word 0 4 < 15
    → field r.word 7 5 ≡ 0 → shift_of (field r.word 5 2) ≡ shift.LogicalLeft → MovesToPc o.sets_flags r
by_move o r has always fields allowed moves rd rm_is rm amount kind = record {
  does = does_so form.ShiftByNumber (action.Operate o) r has always (ap (λ (x : Operate). action.Operate x) fields) allowed;
  operation = ap (λ (x : Operate). x.operation) (sym fields) ∙ moves;
  flags = ap (λ (x : Operate). x.sets_flags) (sym fields);
  rd = ap (λ (x : Operate). x.rd) (sym fields) ∙ rd;
  rm = rm_is;
  rm_below = subst (λ (n : ℕ). n < 15) (sym rm_is) rm;
  amount = amount;
  shift = kind;
}

pub by_distance : (o : Transfer) (r : OpValue) → form_of r.word ≡ Ok form.OffsetByNumber → condition_in r.word ≡ condition.Always
    → o ≡ transfer_in (offset.Immediate (field r.word 0 12)) r.word → refusal (action.Transfer o) ≡ None → o.rd < 15 → o.address.rn ≡ 15 → o.address.indexing ≡ indexing.Pre false
    → o.loads ≡ true → o.is_byte ≡ false → r.rd ≡ o.rd → r.value ≡ (if bit_of r.word 23 then field r.word 0 12 else (2 ^ 32 - field r.word 0 12) % 2 ^ 32) → LoadsBeside r
by_distance o r has always fields allowed rd base way loads bytes rd_is value = record {
  does = does_so form.OffsetByNumber (action.Transfer o) r has always (ap (λ (x : Transfer). action.Transfer x) fields) allowed;
  loads = ap (λ (x : Transfer). x.loads) (sym fields) ∙ loads;
  bytes = ap (λ (x : Transfer). x.is_byte) (sym fields) ∙ bytes;
  indexing = ap (λ (x : Transfer). x.address.indexing) (sym fields) ∙ way;
  base = ap (λ (x : Transfer). x.address.rn) (sym fields) ∙ base;
  rd = rd_is ∙ ap (λ (x : Transfer). x.rd) fields;
  rd_below = subst (λ (n : ℕ). n < 15) (sym rd_is) rd;
  value = value;
}

-- LDM and STM by fields that are read and allowed
moves : (t : BlockTransfer) (u has_pc : Bool) (r : OpValue) → form_of r.word ≡ Ok form.BlockTransfer → condition_in r.word ≡ condition.Always → t ≡ block_transfer_in r.word
    → refusal (action.BlockTransfer t) ≡ None → t.psr_or_user ≡ false → t.rn < 15 → bit_of t.list 15 ≡ has_pc → (not t.loads && (t.writes_back && bit_of t.list t.rn)) ≡ false
    → u ≡ goes_up t.mode → r.rn ≡ t.rn → r.value ≡ t.list → r.rm ≡ gap_below t.mode → r.rs ≡ 4 * length (registers_of_list t.list) → MovesBlock t.loads u t.writes_back has_pc r
moves t u has_pc r has always fields allowed plain rn pc apart up rn_is list gap size = record {
  does = does_so form.BlockTransfer (action.BlockTransfer t) r has always (ap (λ (x : BlockTransfer). action.BlockTransfer x) fields) allowed;
  loads = ap (λ (x : BlockTransfer). x.loads) (sym fields);
  up = ap (λ (x : BlockTransfer). goes_up x.mode) (sym fields) ∙ sym up;
  plain = ap (λ (x : BlockTransfer). x.psr_or_user) (sym fields) ∙ plain;
  back = ap (λ (x : BlockTransfer). x.writes_back) (sym fields);
  rn = rn_is ∙ ap (λ (x : BlockTransfer). x.rn) fields;
  rn_below = subst (λ (n : ℕ). n < 15) (sym rn_is) rn;
  list = list ∙ ap (λ (x : BlockTransfer). x.list) fields;
  pc = ap (λ (n : ℕ). bit_of n 15) list ∙ pc;
  gap = gap ∙ ap (λ (x : BlockTransfer). gap_below x.mode) fields;
  size = size ∙ ap (λ (n : ℕ). 4 * length (registers_of_list n)) (sym list);
  apart = ap (λ (n : ℕ). not t.loads && (t.writes_back && bit_of n r.rn)) list
      ∙ ap (λ (n : ℕ). not t.loads && (t.writes_back && bit_of t.list n)) rn_is ∙ apart;
}

pub by_list : (t : BlockTransfer) (r : OpValue) → (u : Bool) → form_of r.word ≡ Ok form.BlockTransfer → condition_in r.word ≡ condition.Always → t ≡ block_transfer_in r.word
    → refusal (action.BlockTransfer t) ≡ None → t.psr_or_user ≡ false → t.rn < 15 → bit_of t.list 15 ≡ false → (not t.loads && (t.writes_back && bit_of t.list t.rn)) ≡ false
    → u ≡ goes_up t.mode → r.rn ≡ t.rn → r.value ≡ t.list → r.rm ≡ gap_below t.mode → r.rs ≡ 4 * length (registers_of_list t.list) → MovesBlock t.loads u t.writes_back false r
by_list t r u has always fields allowed plain rn pc apart up rn_is list gap size =
    moves t u false r has always fields allowed plain rn pc apart up rn_is list gap size

-- no load stores a base
no_store : (l b : Bool) → l ≡ true → (not l && b) ≡ false
no_store l b e = ap (λ (x : Bool). not x && b) e

pub by_list_with_pc : (t : BlockTransfer) (r : OpValue) → form_of r.word ≡ Ok form.BlockTransfer → condition_in r.word ≡ condition.Always → t ≡ block_transfer_in r.word
    → refusal (action.BlockTransfer t) ≡ None → t.psr_or_user ≡ false → t.rn < 15 → t.loads ≡ true → goes_up t.mode ≡ true → bit_of t.list 15 ≡ true
    → r.rn ≡ t.rn → r.value ≡ t.list → r.rm ≡ gap_below t.mode → r.rs ≡ 4 * length (registers_of_list t.list) → MovesBlock true true t.writes_back true r
by_list_with_pc t r has always fields allowed plain rn loads up pc rn_is list gap size =
    subst (λ (l : Bool). MovesBlock l true t.writes_back true r) loads
    (moves t true true r has always fields allowed plain rn pc (no_store t.loads (t.writes_back && bit_of t.list t.rn) loads) (sym up) rn_is list gap size)
