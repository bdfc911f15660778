-- Where each field stands, written out: the word of each form as the sum of its fields times their
-- powers of two, in the order of the data sheet's diagrams.
use Rattle.std.specs.Prelude.{ℕ, ◌+◌, ◌*◌, ◌^◌}
use Rattle.std.specs.Int.{from_bool}
use Rattle.arm_decode.specs.Names.{condition_code, operation_code, shift_code, block_mode_code, is_up, is_pre_indexed, has_w}
use Rattle.arm_decode.specs.declared.action.Action.{Action}
use Rattle.arm_decode.specs.declared.action.Action.TheVariants as action
use Rattle.arm_decode.specs.declared.action.Operate.{Operate}
use Rattle.arm_decode.specs.declared.action.Transfer.{Transfer}
use Rattle.arm_decode.specs.declared.address.Offset.{Offset}
use Rattle.arm_decode.specs.declared.address.Offset.TheVariants as offset
use Rattle.arm_decode.specs.declared.condition.Condition.{Condition}
use Rattle.arm_decode.specs.declared.operand.Operand.{Operand}
use Rattle.arm_decode.specs.declared.operand.Operand.TheVariants as operand

-- AND to MVN
abbrev pub operate_sum : Condition → Operate → Operand → ℕ
operate_sum c o (operand.Shifted s) =
    condition_code c * 2 ^ 28 + 0 * 2 ^ 25 + operation_code o.operation * 2 ^ 21 + from_bool o.sets_flags *
    2 ^ 20
    + o.rn * 2 ^ 16 + o.rd * 2 ^ 12 + s.amount * 2 ^ 7 + shift_code s.shift * 2 ^ 5 + 0 * 2 ^ 4 + s.rm
operate_sum c o (operand.ShiftedByRegister rm shift rs) =
    condition_code c * 2 ^ 28 + 0 * 2 ^ 25 + operation_code o.operation * 2 ^ 21 + from_bool o.sets_flags *
    2 ^ 20
    + o.rn * 2 ^ 16 + o.rd * 2 ^ 12 + rs * 2 ^ 8 + 0 * 2 ^ 7 + shift_code shift * 2 ^ 5 + 1 * 2 ^ 4 + rm
operate_sum c o (operand.Immediate rotation byte) =
    condition_code c * 2 ^ 28 + 1 * 2 ^ 25 + operation_code o.operation * 2 ^ 21 + from_bool o.sets_flags *
    2 ^ 20
    + o.rn * 2 ^ 16 + o.rd * 2 ^ 12 + rotation * 2 ^ 8 + byte

-- LDR, STR
abbrev pub transfer_sum : Condition → Transfer → Offset → ℕ
transfer_sum c t (offset.Immediate number) =
    condition_code c * 2 ^ 28 + 2 * 2 ^ 25 + from_bool (is_pre_indexed t.address.indexing) * 2 ^ 24
    + from_bool (is_up t.address.direction) * 2 ^ 23 + from_bool t.is_byte * 2 ^ 22
    + from_bool (has_w t.address.indexing) * 2 ^ 21 + from_bool t.loads * 2 ^ 20
    + t.address.rn * 2 ^ 16 + t.rd * 2 ^ 12 + number
transfer_sum c t (offset.Shifted s) =
    condition_code c * 2 ^ 28 + 3 * 2 ^ 25 + from_bool (is_pre_indexed t.address.indexing) * 2 ^ 24
    + from_bool (is_up t.address.direction) * 2 ^ 23 + from_bool t.is_byte * 2 ^ 22
    + from_bool (has_w t.address.indexing) * 2 ^ 21 + from_bool t.loads * 2 ^ 20
    + t.address.rn * 2 ^ 16 + t.rd * 2 ^ 12 + s.amount * 2 ^ 7 + shift_code s.shift * 2 ^ 5 + 0 * 2 ^ 4 + s.rm

abbrev pub sum_of_fields : Condition → Action → ℕ
sum_of_fields c (action.Operate o) = operate_sum c o o.operand
sum_of_fields c (action.Multiply m) =
    condition_code c * 2 ^ 28 + 0 * 2 ^ 22 + from_bool m.accumulates * 2 ^ 21 + from_bool m.sets_flags * 2 ^
    20
    + m.rd * 2 ^ 16 + m.rn * 2 ^ 12 + m.rs * 2 ^ 8 + 9 * 2 ^ 4 + m.rm
sum_of_fields c (action.Transfer t) = transfer_sum c t t.address.offset
sum_of_fields c (action.BlockTransfer b) =
    condition_code c * 2 ^ 28 + 4 * 2 ^ 25 + block_mode_code b.mode * 2 ^ 23 + from_bool b.psr_or_user * 2 ^
    22
    + from_bool b.writes_back * 2 ^ 21 + from_bool b.loads * 2 ^ 20 + b.rn * 2 ^ 16 + b.list
sum_of_fields c (action.Branch links distance) =
    condition_code c * 2 ^ 28 + 5 * 2 ^ 25 + from_bool links * 2 ^ 24 + distance
sum_of_fields c (action.SoftwareInterrupt number) = condition_code c * 2 ^ 28 + 15 * 2 ^ 24 + number
