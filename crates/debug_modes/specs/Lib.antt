-- The modes of a debugger, and the lines that change them or are shown in them. Begin with Modes.
pub use Rattle.command_shell.specs.Answers
pub use Rattle.command_shell.specs.Memory
pub use Rattle.command_shell.specs.Session
pub use Rattle.command_shell.specs.State
pub use Rattle.debug_lines.specs.SteppingRequests
pub use Rattle.debug_tables.specs.GuestState
pub use Rattle.debug_tables.specs.MachineState
pub mod Changes
pub mod Counting
pub mod Modes
pub mod OwnAnswers
pub mod ViewTexts
pub mod expectations
