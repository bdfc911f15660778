-- Which word an instruction's text means. Begin with Instructions.
pub use Rattle.assembler_text.specs.declared.naming.mnemonics.Command
pub use Rattle.assembler_text.specs.declared.naming.reason.Reason
pub use Rattle.assembler_text.specs.naming.AssemblerTextNames
pub use Rattle.assembler_text.specs.naming.Expressions
pub use Rattle.assembler_text.specs.naming.Labels
pub use Rattle.assembler_text.specs.naming.Mnemonics
pub use Rattle.assembler_text.specs.naming.Names
pub use Rattle.assembler_text.specs.naming.Numbers
pub use Rattle.assembler_text.specs.naming.Operands as AssemblerTextOperands
pub use Rattle.assembler_text.specs.naming.Printing
pub use Rattle.assembler_text.specs.naming.Transfers
pub use Rattle.assembler_text.specs.naming.Words
pub mod Addresses
pub mod Instructions
pub mod Laws
pub mod Operands
pub mod Operating
pub mod RegisterLists
