-- What a step or a line leaves of a machine, as values. Begin with Difference; law_replay says what the
-- values are good for. CoreFields and WordFields say how records spell the core and the words of memory.
pub use Rattle.law_machine.specs.Halt
pub mod Areas
pub mod CoreFields
pub mod Difference
pub mod Fields
pub mod Flex
pub mod Frames
pub mod Modules
pub mod Stored
pub mod WordFields
pub mod law_replay
pub mod law_trace
