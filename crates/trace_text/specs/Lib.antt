-- The lines of a traced step. Begin with Step.
pub use Rattle.trace_effects.specs.Cause
pub use Rattle.trace_effects.specs.Columns
pub use Rattle.trace_effects.specs.Leaving
pub use Rattle.trace_effects.specs.changes.Status
pub use Rattle.trace_effects.specs.declared.cause.Cause as TraceEffectsCause
pub use Rattle.trace_effects.specs.word_text.Stored
pub use Rattle.trace_store_text.specs.Copies
pub use Rattle.trace_store_text.specs.GuestState
pub use Rattle.trace_store_text.specs.MachineState
pub use Rattle.trace_store_text.specs.Sound
pub use Rattle.trace_store_text.specs.Step as SwiDispatchGuestStep
pub use Rattle.trace_store_text.specs.Words
pub use Rattle.trace_store_text.specs.heaps
pub mod Areas
pub mod Below
pub mod Calls
pub mod Core
pub mod Errors
pub mod Instruction
pub mod Start
pub mod Step
pub mod Strings
