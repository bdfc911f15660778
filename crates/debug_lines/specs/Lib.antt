-- What each line of a debugging script asks for. Begin with DebugRequests.
pub use Rattle.command_shell_lines.specs.Requests
pub use Rattle.command_shell_lines.specs.debug_words.Spelling
pub use Rattle.command_shell_lines.specs.declared.debug_words.stubs.Stub
pub mod BlockEnds
pub mod ByteLines
pub mod DebugRequests
pub mod Expectations
pub mod FewWords
pub mod LineKinds
pub mod ModeRequests
pub mod Openers
pub mod Registers
pub mod Repeats
pub mod Status
pub mod SteppingRequests
pub mod Tidy
pub mod WholeDebugRequests
