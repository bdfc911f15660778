-- The proofs of debug_records stand beside its functions.

pub mod AnsweredLemmas
pub mod HeadLemmas
pub mod MomentLemmas
pub mod RecordedLines
pub mod RecordLemmas
pub mod StandingLemmas
pub mod TakingLemmas
pub use Rattle.debug_session.proofs.FailLemmas
pub use Rattle.debug_session.proofs.JoinLemmas
pub use Rattle.debug_session.proofs.LineLemmas
