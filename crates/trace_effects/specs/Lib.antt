-- What a step finds, of what a trace shows. Begin with Cause.
pub use Rattle.arm_step.specs.Bytes
pub use Rattle.arm_step.specs.Memory
pub mod Cause
pub mod Columns
pub mod Effects
pub mod Leaving
pub mod Loaded
pub mod Outside
pub mod Stored
pub mod changes
pub mod record_text
pub mod shown_words
pub mod shown_registers
pub mod word_text
