-- What each line of a script asks for. Begin with Requests.
pub use Rattle.assembler_text.specs.declared.naming.reason.Reason
pub use Rattle.assembler_text.specs.naming.Labels
pub use Rattle.assembler_text.specs.naming.Words
pub mod Blocks
pub mod FailedBlocks
pub mod HexPairs
pub mod Numbers
pub mod Operands
pub mod Requests
pub mod debug_words
