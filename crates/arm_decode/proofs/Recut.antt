-- The fields that are cut from an instruction's word are the instruction's.
use Rattle.std.proofs.Common.{◌≡◌, ℕ, ◌^◌, ◌<◌, arith, ap, ◌∙◌, Bool}
use Rattle.profile.specs.Word.{field, bit_of}
use Rattle.arm_decode.proofs.Codes.{condition_of-code, condition_code-lt, operation_of-code, operation_code-lt, shift_of-code, shift_code-lt, block_mode_of-code, block_mode_code-lt, direction_of-is_up, indexing_of-bits}
use Rattle.arm_decode.proofs.Flags.{from_bool-lt, bit_of-from_bool}
use Rattle.arm_decode.proofs.Rows.{HasBits}
use Rattle.arm_decode.specs.Diagrams.{word_of_instruction}
use Rattle.arm_decode.specs.Fields.{condition_in, action_in, multiply_in, block_transfer_in, operate_in, shifted_in, immediate_in, operand_by_register_in, transfer_in}
use Rattle.arm_decode.specs.Names.{condition_code, condition_of, operation_code, operation_of, shift_code, shift_of, block_mode_code, block_mode_of, direction_of, is_up, indexing_of, is_pre_indexed, has_w}
use Rattle.arm_decode.specs.Ranges.{FitsFields}
use Rattle.arm_decode.specs.declared.action.Action.{Action}
use Rattle.arm_decode.specs.declared.action.Action.TheVariants as action
use Rattle.arm_decode.specs.declared.action.BlockTransfer.{BlockTransfer}
use Rattle.arm_decode.specs.declared.action.Multiply.{Multiply}
use Rattle.arm_decode.specs.declared.address.BlockMode.{BlockMode}
use Rattle.arm_decode.specs.declared.address.Direction.{Direction}
use Rattle.arm_decode.specs.declared.address.Indexing.{Indexing}
use Rattle.arm_decode.specs.declared.address.Offset.{Offset}
use Rattle.arm_decode.specs.declared.address.Offset.TheVariants as offset
use Rattle.arm_decode.specs.declared.condition.Condition.{Condition}
use Rattle.arm_decode.specs.declared.form.Form.{Form}
use Rattle.arm_decode.specs.declared.form.Form.TheVariants as form
use Rattle.arm_decode.specs.declared.operand.Operand.{Operand}
use Rattle.arm_decode.specs.declared.operand.Operand.TheVariants as operand
use Rattle.arm_decode.specs.declared.operation.Operation.{Operation}
use Rattle.arm_decode.specs.declared.shift.Shift.{Shift}

-- a word of some form, whose fields are this condition and this action
pub record IsCutInto (w : ℕ) (c : Condition) (a : Action) : Type 0 where
  pub form : Form
  pub bits : HasBits form w
  pub condition : condition_in w ≡ c
  pub action : action_in form w ≡ a

condition-at : (w : ℕ) (c : Condition) → field w 28 4 ≡ condition_code c → condition_in w ≡ c
condition-at w c e = ap condition_of e ∙ condition_of-code c

multiply-from : (w : ℕ) (accumulates sets_flags : Bool) (rd rn rs rm : ℕ)
    → bit_of w 21 ≡ accumulates → bit_of w 20 ≡ sets_flags
    → field w 16 4 ≡ rd → field w 12 4 ≡ rn → field w 8 4 ≡ rs → field w 0 4 ≡ rm
    → multiply_in w ≡ record { accumulates = accumulates; sets_flags = sets_flags; rd = rd; rn = rn; rs = rs; rm = rm }
multiply-from w accumulates sets_flags rd rn rs rm e1 e2 e3 e4 e5 e6 = cc

recut-multiply : (w : ℕ) (c : Condition) (m : Multiply) → FitsFields (action.Multiply m) → w ≡ word_of_instruction (c, action.Multiply m)
    → IsCutInto w c (action.Multiply m)
recut-multiply w c m h e =
    let c_lt = condition_code-lt c in
    let a_lt = from_bool-lt m.accumulates in
    let s_lt = from_bool-lt m.sets_flags in
    record {
      form = form.Multiply;
      bits = (omega arith, omega arith);
      condition = condition-at w c (omega arith);
      action = ap action.Multiply (multiply-from w m.accumulates m.sets_flags m.rd m.rn m.rs m.rm
          (bit_of-from_bool w 21 m.accumulates (omega arith)) (bit_of-from_bool w 20 m.sets_flags (omega arith))
          (omega arith) (omega arith) (omega arith) (omega arith));
    }

block-from : (w : ℕ) (loads psr writes_back : Bool) (mode : BlockMode) (rn list : ℕ)
    → bit_of w 20 ≡ loads → block_mode_of (field w 23 2) ≡ mode → bit_of w 22 ≡ psr → bit_of w 21 ≡ writes_back
    → field w 16 4 ≡ rn → field w 0 16 ≡ list
    → block_transfer_in w ≡ record { loads = loads; mode = mode; psr_or_user = psr; writes_back = writes_back; rn = rn; list = list }
block-from w loads psr writes_back mode rn list e1 e2 e3 e4 e5 e6 = cc

recut-block : (w : ℕ) (c : Condition) (b : BlockTransfer) → FitsFields (action.BlockTransfer b) → w ≡ word_of_instruction (c, action.BlockTransfer b)
    → IsCutInto w c (action.BlockTransfer b)
recut-block w c b h e =
    let c_lt = condition_code-lt c in
    let m_lt = block_mode_code-lt b.mode in
    let l_lt = from_bool-lt b.loads in
    let s_lt = from_bool-lt b.psr_or_user in
    let w_lt = from_bool-lt b.writes_back in
    let mode : field w 23 2 ≡ block_mode_code b.mode = omega arith in
    record {
      form = form.BlockTransfer;
      bits = omega arith;
      condition = condition-at w c (omega arith);
      action = ap action.BlockTransfer (block-from w b.loads b.psr_or_user b.writes_back b.mode b.rn b.list
          (bit_of-from_bool w 20 b.loads (omega arith)) (ap block_mode_of mode ∙ block_mode_of-code b.mode)
          (bit_of-from_bool w 22 b.psr_or_user (omega arith)) (bit_of-from_bool w 21 b.writes_back (omega arith))
          (omega arith) (omega arith));
    }

recut-branch : (w : ℕ) (c : Condition) (links : Bool) (distance : ℕ) → distance < 2 ^ 24 → w ≡ word_of_instruction (c, action.Branch links distance)
    → IsCutInto w c (action.Branch links distance)
recut-branch w c links distance h e =
    let c_lt = condition_code-lt c in
    let l_lt = from_bool-lt links in
    let l : bit_of w 24 ≡ links = bit_of-from_bool w 24 links (omega arith) in
    let d : field w 0 24 ≡ distance = omega arith in
    record { form = form.Branch; bits = omega arith; condition = condition-at w c (omega arith); action = cc }

recut-swi : (w : ℕ) (c : Condition) (number : ℕ) → number < 2 ^ 24 → w ≡ word_of_instruction (c, action.SoftwareInterrupt number)
    → IsCutInto w c (action.SoftwareInterrupt number)
recut-swi w c number h e =
    let c_lt = condition_code-lt c in
    let n : field w 0 24 ≡ number = omega arith in
    record { form = form.SoftwareInterrupt; bits = omega arith; condition = condition-at w c (omega arith); action = cc }

shifted-from : (w rm amount : ℕ) (s : Shift) → field w 0 4 ≡ rm → field w 5 2 ≡ shift_code s → field w 7 5 ≡ amount
    → shifted_in w ≡ record { rm = rm; shift = s; amount = amount }
shifted-from w rm amount s e1 e2 e3 = let shift : shift_of (field w 5 2) ≡ s = ap shift_of e2 ∙ shift_of-code s in cc

by_register-from : (w rm rs : ℕ) (s : Shift) → field w 0 4 ≡ rm → field w 5 2 ≡ shift_code s → field w 8 4 ≡ rs
    → operand_by_register_in w ≡ operand.ShiftedByRegister rm s rs
by_register-from w rm rs s e1 e2 e3 = let shift : shift_of (field w 5 2) ≡ s = ap shift_of e2 ∙ shift_of-code s in cc

immediate-from : (w rotation byte : ℕ) → field w 8 4 ≡ rotation → field w 0 8 ≡ byte → immediate_in w ≡ operand.Immediate rotation byte
immediate-from w rotation byte e1 e2 = cc

operate-from : (w : ℕ) (operation : Operation) (sets_flags : Bool) (rn rd : ℕ) (cut second : Operand)
    → field w 21 4 ≡ operation_code operation → bit_of w 20 ≡ sets_flags → field w 16 4 ≡ rn → field w 12 4 ≡ rd → cut ≡ second
    → operate_in cut w ≡ record { operation = operation; sets_flags = sets_flags; rn = rn; rd = rd; operand = second }
operate-from w operation sets_flags rn rd cut second e1 e2 e3 e4 e5 =
    let named : operation_of (field w 21 4) ≡ operation = ap operation_of e1 ∙ operation_of-code operation in cc

abbrev operate_with : Operation → Bool → ℕ → ℕ → Operand → Action
operate_with operation sets_flags rn rd second =
    action.Operate (record { operation = operation; sets_flags = sets_flags; rn = rn; rd = rd; operand = second })

recut-operate : (w : ℕ) (c : Condition) (operation : Operation) (sets_flags : Bool) (rn rd : ℕ) (second : Operand)
    → FitsFields (operate_with operation sets_flags rn rd second) → w ≡ word_of_instruction (c, operate_with operation sets_flags rn rd second)
    → IsCutInto w c (operate_with operation sets_flags rn rd second)
recut-operate w c operation sets_flags rn rd (operand.Immediate rotation byte) h e =
    let c_lt = condition_code-lt c in
    let o_lt = operation_code-lt operation in
    let s_lt = from_bool-lt sets_flags in
    record {
      form = form.Immediate;
      bits = omega arith;
      condition = condition-at w c (omega arith);
      action = ap action.Operate (operate-from w operation sets_flags rn rd _ _ (omega arith)
          (bit_of-from_bool w 20 sets_flags (omega arith)) (omega arith) (omega arith)
          (immediate-from w rotation byte (omega arith) (omega arith)));
    }
recut-operate w c operation sets_flags rn rd (operand.Shifted s) h e =
    let c_lt = condition_code-lt c in
    let o_lt = operation_code-lt operation in
    let s_lt = from_bool-lt sets_flags in
    let t_lt = shift_code-lt s.shift in
    record {
      form = form.ShiftByNumber;
      bits = (omega arith, omega arith);
      condition = condition-at w c (omega arith);
      action = ap action.Operate (operate-from w operation sets_flags rn rd _ _ (omega arith)
          (bit_of-from_bool w 20 sets_flags (omega arith)) (omega arith) (omega arith)
          (ap operand.Shifted (shifted-from w s.rm s.amount s.shift (omega arith) (omega arith) (omega arith))));
    }
recut-operate w c operation sets_flags rn rd (operand.ShiftedByRegister rm shift rs) h e =
    let c_lt = condition_code-lt c in
    let o_lt = operation_code-lt operation in
    let s_lt = from_bool-lt sets_flags in
    let t_lt = shift_code-lt shift in
    record {
      form = form.ShiftByRegister;
      bits = (omega arith, omega arith, omega arith);
      condition = condition-at w c (omega arith);
      action = ap action.Operate (operate-from w operation sets_flags rn rd _ _ (omega arith)
          (bit_of-from_bool w 20 sets_flags (omega arith)) (omega arith) (omega arith)
          (by_register-from w rm rs shift (omega arith) (omega arith) (omega arith)));
    }

transfer-from : (w : ℕ) (loads is_byte : Bool) (rd rn : ℕ) (i : Indexing) (d : Direction) (cut by : Offset)
    → bit_of w 20 ≡ loads → bit_of w 22 ≡ is_byte → field w 12 4 ≡ rd → field w 16 4 ≡ rn
    → bit_of w 24 ≡ is_pre_indexed i → bit_of w 21 ≡ has_w i → bit_of w 23 ≡ is_up d → cut ≡ by
    → transfer_in cut w ≡ record {
      loads = loads;
      is_byte = is_byte;
      rd = rd;
      address = record { indexing = i; direction = d; rn = rn; offset = by };
    }
transfer-from w loads is_byte rd rn i d cut by e1 e2 e3 e4 e5 e6 e7 e8 =
    let indexing : indexing_of (bit_of w 24) (bit_of w 21) ≡ i =
    ap (λ p. indexing_of p (bit_of w 21)) e5 ∙ ap (λ x. indexing_of (is_pre_indexed i) x) e6 ∙ indexing_of-bits i in
    let direction : direction_of (bit_of w 23) ≡ d = ap direction_of e7 ∙ direction_of-is_up d in
    cc

abbrev transfer_with : Bool → Bool → ℕ → ℕ → Indexing → Direction → Offset → Action
transfer_with loads is_byte rd rn i d by =
    action.Transfer (record {
      loads = loads;
      is_byte = is_byte;
      rd = rd;
      address = record { indexing = i; direction = d; rn = rn; offset = by };
    })

recut-transfer : (w : ℕ) (c : Condition) (loads is_byte : Bool) (rd rn : ℕ) (i : Indexing) (d : Direction) (by : Offset)
    → FitsFields (transfer_with loads is_byte rd rn i d by) → w ≡ word_of_instruction (c, transfer_with loads is_byte rd rn i d by)
    → IsCutInto w c (transfer_with loads is_byte rd rn i d by)
recut-transfer w c loads is_byte rd rn i d (offset.Immediate number) h e =
    let c_lt = condition_code-lt c in
    let l_lt = from_bool-lt loads in
    let b_lt = from_bool-lt is_byte in
    let p_lt = from_bool-lt (is_pre_indexed i) in
    let w_lt = from_bool-lt (has_w i) in
    let u_lt = from_bool-lt (is_up d) in
    record {
      form = form.OffsetByNumber;
      bits = omega arith;
      condition = condition-at w c (omega arith);
      action = ap action.Transfer (transfer-from w loads is_byte rd rn i d _ _
          (bit_of-from_bool w 20 loads (omega arith)) (bit_of-from_bool w 22 is_byte (omega arith)) (omega arith) (omega arith)
          (bit_of-from_bool w 24 (is_pre_indexed i) (omega arith)) (bit_of-from_bool w 21 (has_w i) (omega arith))
          (bit_of-from_bool w 23 (is_up d) (omega arith)) (ap offset.Immediate (omega arith)));
    }
recut-transfer w c loads is_byte rd rn i d (offset.Shifted s) h e =
    let c_lt = condition_code-lt c in
    let l_lt = from_bool-lt loads in
    let b_lt = from_bool-lt is_byte in
    let p_lt = from_bool-lt (is_pre_indexed i) in
    let w_lt = from_bool-lt (has_w i) in
    let u_lt = from_bool-lt (is_up d) in
    let t_lt = shift_code-lt s.shift in
    record {
      form = form.OffsetByRegister;
      bits = (omega arith, omega arith);
      condition = condition-at w c (omega arith);
      action = ap action.Transfer (transfer-from w loads is_byte rd rn i d _ _
          (bit_of-from_bool w 20 loads (omega arith)) (bit_of-from_bool w 22 is_byte (omega arith)) (omega arith) (omega arith)
          (bit_of-from_bool w 24 (is_pre_indexed i) (omega arith)) (bit_of-from_bool w 21 (has_w i) (omega arith))
          (bit_of-from_bool w 23 (is_up d) (omega arith))
          (ap offset.Shifted (shifted-from w s.rm s.amount s.shift (omega arith) (omega arith) (omega arith))));
    }

pub recut : (w : ℕ) (c : Condition) (a : Action) → FitsFields a → w ≡ word_of_instruction (c, a) → IsCutInto w c a
recut w c (action.Multiply m) h e = recut-multiply w c m h e
recut w c (action.BlockTransfer b) h e = recut-block w c b h e
recut w c (action.Branch links distance) h e = recut-branch w c links distance h e
recut w c (action.SoftwareInterrupt number) h e = recut-swi w c number h e
recut w c (action.Operate o) h e = recut-operate w c o.operation o.sets_flags o.rn o.rd o.operand h e
recut w c (action.Transfer t) h e =
    recut-transfer w c t.loads t.is_byte t.rd t.address.rn t.address.indexing t.address.direction t.address.offset h e
