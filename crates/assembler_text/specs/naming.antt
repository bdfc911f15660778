-- What names, numbers and labels of assembler text are. Begin with Words and Expressions.
pub use Rattle.assembler_text.specs.Names as AssemblerTextNames
pub use Rattle.assembler_text.specs.Numbers
pub use Rattle.assembler_text.specs.Operands
pub use Rattle.assembler_text.specs.Printing
pub use Rattle.assembler_text.specs.Transfers
pub mod Expressions
pub mod Labels
pub mod Mnemonics
pub mod Names
pub mod SwiNames
pub mod Words
