-- What a script is answered. Begin with Script; each family of lines has a file of its own.
pub use Rattle.assembler.specs.Passes
pub use Rattle.assembler.specs.declared.error.AsmError
pub use Rattle.command_shell_lines.specs.Blocks as CommandShellLinesBlocks
pub use Rattle.command_shell_lines.specs.Labels
pub use Rattle.command_shell_lines.specs.Reason
pub use Rattle.command_shell_lines.specs.Requests
pub use Rattle.command_shell_lines.specs.Words
pub use Rattle.command_shell_lines.specs.debug_words.NamedBytes
pub use Rattle.command_shell_lines.specs.declared.debug_words.stubs.Stub
pub use Rattle.command_shell_lines.specs.declared.debug_words.stubs.StubFlags
pub use Rattle.command_shell_lines.specs.declared.debug_words.stubs.StubRegister
pub use Rattle.debugger.specs.ArmCorePsr as Psr
pub use Rattle.debugger.specs.ArmStepStep
pub use Rattle.debugger.specs.Blocks
pub use Rattle.debugger.specs.Boot
pub use Rattle.debugger.specs.BootError
pub use Rattle.debugger.specs.Code
pub use Rattle.debugger.specs.Conditions
pub use Rattle.debugger.specs.Effect
pub use Rattle.debugger.specs.GuestState
pub use Rattle.debugger.specs.Halt
pub use Rattle.debugger.specs.Lookup
pub use Rattle.debugger.specs.MachineState
pub use Rattle.debugger.specs.Mode
pub use Rattle.debugger.specs.Operate
pub use Rattle.debugger.specs.Psr as ArmCorePsr
pub use Rattle.debugger.specs.Run
pub use Rattle.debugger.specs.State as ArmCoreState
pub use Rattle.debugger.specs.Step
pub use Rattle.debugger.specs.StepEnd
pub use Rattle.debugger.specs.Store
pub use Rattle.debugger.specs.Transfers
pub use Rattle.debugger.specs.Value
pub use Rattle.debugger.specs.Writes
pub mod Answers
pub mod Calls
pub mod Error
pub mod Fronts
pub mod Images
pub mod Memory
pub mod Script
pub mod Session
pub mod State
pub mod Stepping
pub mod Views
pub mod Whole
pub mod WordWatches
