-- What a line EXPECT is answered. Begin with Checks.
pub use Rattle.debug_labels.specs.Flex
pub use Rattle.debug_labels.specs.Heap
pub use Rattle.debug_labels.specs.Debuggerviews as views
pub mod Checks
pub mod Dump
pub mod Endings
pub mod Halted
pub mod Reasons
pub mod reports
pub mod Why
