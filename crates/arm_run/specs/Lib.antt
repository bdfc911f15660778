-- Steps one after another. Begin with Runs, then Standing; Operated, Moved and Blocked have what the kinds of words leave.
pub use Rattle.arm_core.specs.Action
pub use Rattle.arm_core.specs.Condition
pub use Rattle.arm_core.specs.Conditions
pub use Rattle.arm_core.specs.Decoded as ArmDecodeDecoded
pub use Rattle.arm_core.specs.Effect
pub use Rattle.arm_core.specs.Fields
pub use Rattle.arm_core.specs.Operate
pub use Rattle.arm_core.specs.Psr as ArmCorePsr
pub use Rattle.arm_core.specs.State
pub use Rattle.arm_core.specs.breaks.Breaks
pub use Rattle.arm_core.specs.declared.breaks.breaks.BreakError
pub use Rattle.arm_core.specs.declared.psr.Mode
pub use Rattle.arm_core.specs.declared.psr.Psr
pub use Rattle.arm_core.specs.declared.turn.StepEnd
pub use Rattle.arm_step.specs.Blocks
pub use Rattle.arm_step.specs.OwnedBytes
pub use Rattle.arm_step.specs.Step
pub use Rattle.arm_step.specs.Transfers
pub use Rattle.arm_step.specs.Turns
pub use Rattle.arm_step.specs.Words
pub mod Blocked
pub mod Moved
pub mod Operated
pub mod Runs
pub mod Standing
pub mod decoded
