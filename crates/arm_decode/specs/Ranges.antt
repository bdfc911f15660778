-- The numbers of an instruction's fields fit the fields. Every value of the types does; a law over
-- all numbers says so.
use Rattle.std.specs.Prelude.{◌<◌, ◌^◌}
use Rattle.arm_decode.specs.declared.action.Action.{Action}
use Rattle.arm_decode.specs.declared.action.Action.TheVariants as action
use Rattle.arm_decode.specs.declared.address.Offset.{Offset}
use Rattle.arm_decode.specs.declared.address.Offset.TheVariants as offset
use Rattle.arm_decode.specs.declared.operand.Operand.{Operand}
use Rattle.arm_decode.specs.declared.operand.Operand.TheVariants as operand
use Rattle.arm_decode.specs.declared.shift.ShiftedRegister.{ShiftedRegister}

abbrev pub FitsShifted : ShiftedRegister → Type 0
FitsShifted s = (s.rm < 2 ^ 4) × (s.amount < 2 ^ 5)

abbrev pub FitsOperand : Operand → Type 0
FitsOperand (operand.Immediate rotation byte) = (rotation < 2 ^ 4) × (byte < 2 ^ 8)
FitsOperand (operand.Shifted s) = FitsShifted s
FitsOperand (operand.ShiftedByRegister rm shift rs) = (rm < 2 ^ 4) × (rs < 2 ^ 4)

abbrev pub FitsOffset : Offset → Type 0
FitsOffset (offset.Immediate number) = number < 2 ^ 12
FitsOffset (offset.Shifted s) = FitsShifted s

abbrev pub FitsFields : Action → Type 0
FitsFields (action.Operate o) = (o.rn < 2 ^ 4) × (o.rd < 2 ^ 4) × FitsOperand o.operand
FitsFields (action.Multiply m) = (m.rd < 2 ^ 4) × (m.rn < 2 ^ 4) × (m.rs < 2 ^ 4) × (m.rm < 2 ^ 4)
FitsFields (action.Transfer t) = (t.rd < 2 ^ 4) × (t.address.rn < 2 ^ 4) × FitsOffset t.address.offset
FitsFields (action.BlockTransfer b) = (b.rn < 2 ^ 4) × (b.list < 2 ^ 16)
FitsFields (action.Branch links distance) = distance < 2 ^ 24
FitsFields (action.SoftwareInterrupt number) = number < 2 ^ 24
