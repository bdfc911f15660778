-- The past of a machine: what was done to it, and how it stood. Begin with Past.
pub use Rattle.debug_labels.specs.Halt
pub use Rattle.debug_labels.specs.Lines as DebugLabelsLines
pub use Rattle.debug_labels.specs.Reasons
pub use Rattle.debug_tables.specs.CallEnd
pub use Rattle.debug_tables.specs.Calls as ShellCalls
pub use Rattle.debug_tables.specs.Run as MachineRun
pub use Rattle.debug_tables.specs.Step as MachineSteps
pub mod Acts
pub mod Again
pub mod Answers
pub mod Cutting
pub mod KeptStubs
pub mod Laws
pub mod Lines
pub mod Noted
pub mod Past
pub mod Scan
pub mod Search
pub mod Steps
pub mod Texts
