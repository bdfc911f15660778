-- The text of each instruction. Begin with Printing.
pub use Rattle.arm_decode.specs.Digits
pub use Rattle.arm_decode.specs.Entries
pub use Rattle.arm_decode.specs.ErrorNames
pub use Rattle.arm_decode.specs.ErrorNumber
pub use Rattle.arm_decode.specs.Pulls
pub use Rattle.arm_decode.specs.WholeLines
pub mod Names
pub mod Numbers
pub mod Operands
pub mod Printing
pub mod Transfers
pub mod naming
