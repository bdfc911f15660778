-- What is kept of a machine before a step or a line, and what is written of it behind that. Begin with
-- Moments; OtherFields says what other fields don't say.
pub use Rattle.trace_moments.specs.CoreFields
pub use Rattle.trace_moments.specs.Fields
pub use Rattle.trace_moments.specs.WordFields
pub use Rattle.trace_moments.specs.law_trace.Laws as PlainSteps
pub use Rattle.trace_text.specs.GuestState
pub use Rattle.trace_text.specs.MachineState
pub use Rattle.trace_text.specs.SwiDispatchGuestStep as Step
pub mod Moments
pub mod OtherFields
