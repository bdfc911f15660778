-- The core without memory: its registers, its status, and what one instruction leaves of them. Begin
-- with State, then Operate.
pub use Rattle.arm_decode.specs.Decoded
pub use Rattle.arm_decode.specs.Fault
pub use Rattle.arm_decode.specs.Fields
pub use Rattle.arm_decode.specs.Names
pub use Rattle.arm_decode.specs.Outcome
pub use Rattle.arm_decode.specs.Refusals
pub use Rattle.arm_decode.specs.Shifted
pub use Rattle.arm_decode.specs.Stop
pub use Rattle.arm_decode.specs.Sum
pub use Rattle.arm_decode.specs.Table
pub use Rattle.arm_decode.specs.Word
pub use Rattle.arm_decode.specs.declared.action.Action
pub use Rattle.arm_decode.specs.declared.action.BlockTransfer
pub use Rattle.arm_decode.specs.declared.action.Multiply
pub use Rattle.arm_decode.specs.declared.action.Operate as ArmDecodeOperate
pub use Rattle.arm_decode.specs.declared.action.Transfer
pub use Rattle.arm_decode.specs.declared.address.BlockMode
pub use Rattle.arm_decode.specs.declared.address.Indexing
pub use Rattle.arm_decode.specs.declared.address.Offset
pub use Rattle.arm_decode.specs.declared.condition.Condition
pub use Rattle.arm_decode.specs.declared.form.Form
pub use Rattle.arm_decode.specs.declared.operand.Operand as ArmDecodeOperand
pub use Rattle.arm_decode.specs.declared.operation.Operation
pub use Rattle.arm_decode.specs.declared.shift.Shift
pub use Rattle.arm_decode.specs.declared.shift.ShiftedRegister
pub mod Banks
pub mod Conditions
pub mod Effect
pub mod Laws
pub mod Listed
pub mod Operand
pub mod Operate
pub mod Psr
pub mod State
pub mod breaks
pub mod register_file
