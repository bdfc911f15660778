-- The fields of each form, cut from the word where the diagrams of the ARM2 data sheet show them.
use Rattle.std.specs.Prelude.{ℕ}
use Rattle.profile.specs.Word.{field, bit_of}
use Rattle.arm_decode.specs.Names.{condition_of, operation_of, shift_of, block_mode_of, direction_of, indexing_of}
use Rattle.arm_decode.specs.declared.action.Action.{Action}
use Rattle.arm_decode.specs.declared.action.Action.TheVariants as action
use Rattle.arm_decode.specs.declared.action.BlockTransfer.{BlockTransfer}
use Rattle.arm_decode.specs.declared.action.Multiply.{Multiply}
use Rattle.arm_decode.specs.declared.action.Operate.{Operate}
use Rattle.arm_decode.specs.declared.action.Transfer.{Transfer}
use Rattle.arm_decode.specs.declared.address.Address.{Address}
use Rattle.arm_decode.specs.declared.address.Offset.{Offset}
use Rattle.arm_decode.specs.declared.address.Offset.TheVariants as offset
use Rattle.arm_decode.specs.declared.condition.Condition.{Condition}
use Rattle.arm_decode.specs.declared.form.Form.{Form}
use Rattle.arm_decode.specs.declared.form.Form.TheVariants as form
use Rattle.arm_decode.specs.declared.operand.Operand.{Operand}
use Rattle.arm_decode.specs.declared.operand.Operand.TheVariants as operand
use Rattle.arm_decode.specs.declared.shift.ShiftedRegister.{ShiftedRegister}

abbrev pub condition_in : ℕ → Condition
condition_in w = condition_of (field w 28 4)

-- Rm shifted by a number, of data processing and of the offset of LDR and STR
abbrev pub shifted_in : ℕ → ShiftedRegister
shifted_in w = record { rm = field w 0 4; shift = shift_of (field w 5 2); amount = field w 7 5 }

abbrev pub operand_by_register_in : ℕ → Operand
operand_by_register_in w = operand.ShiftedByRegister (field w 0 4) (shift_of (field w 5 2)) (field w 8 4)

abbrev pub immediate_in : ℕ → Operand
immediate_in w = operand.Immediate (field w 8 4) (field w 0 8)

abbrev pub operate_in : Operand → ℕ → Operate
operate_in second w = record {
  operation = operation_of (field w 21 4);
  sets_flags = bit_of w 20;
  rn = field w 16 4;
  rd = field w 12 4;
  operand = second;
}

abbrev pub multiply_in : ℕ → Multiply
multiply_in w = record {
  accumulates = bit_of w 21;
  sets_flags = bit_of w 20;
  rd = field w 16 4;
  rn = field w 12 4;
  rs = field w 8 4;
  rm = field w 0 4;
}

abbrev pub address_in : Offset → ℕ → Address
address_in by w = record {
  indexing = indexing_of (bit_of w 24) (bit_of w 21);
  direction = direction_of (bit_of w 23);
  rn = field w 16 4;
  offset = by;
}

abbrev pub transfer_of_word : Address → ℕ → Transfer
transfer_of_word place w = record {
  loads = bit_of w 20;
  is_byte = bit_of w 22;
  rd = field w 12 4;
  address = place;
}

abbrev pub transfer_in : Offset → ℕ → Transfer
transfer_in by w = transfer_of_word (address_in by w) w

abbrev pub block_transfer_in : ℕ → BlockTransfer
block_transfer_in w = record {
  loads = bit_of w 20;
  mode = block_mode_of (field w 23 2);
  psr_or_user = bit_of w 22;
  writes_back = bit_of w 21;
  rn = field w 16 4;
  list = field w 0 16;
}

abbrev pub action_in : Form → ℕ → Action
action_in form.Multiply w = action.Multiply (multiply_in w)
action_in form.ShiftByNumber w = action.Operate (operate_in (operand.Shifted (shifted_in w)) w)
action_in form.ShiftByRegister w = action.Operate (operate_in (operand_by_register_in w) w)
action_in form.Immediate w = action.Operate (operate_in (immediate_in w) w)
action_in form.OffsetByNumber w = action.Transfer (transfer_in (offset.Immediate (field w 0 12)) w)
action_in form.OffsetByRegister w = action.Transfer (transfer_in (offset.Shifted (shifted_in w)) w)
action_in form.BlockTransfer w = action.BlockTransfer (block_transfer_in w)
action_in form.Branch w = action.Branch (bit_of w 24) (field w 0 24)
action_in form.SoftwareInterrupt w = action.SoftwareInterrupt (field w 0 24)
