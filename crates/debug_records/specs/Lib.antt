-- A debugging script as records. Begin with Records, which says what is written of a script from its
-- first record to its last; LineRecords says which records each line has that is answered, and
-- AnsweredLines which lines these are.
pub mod AnswerHeads
pub mod AnsweredLines
pub mod LineRecords
pub mod Moments
pub mod Recording
pub mod Records
pub mod Taking
pub use Rattle.debug_session.specs.DebugChecksReportForm
pub use Rattle.debug_session.specs.DebugScript
pub use Rattle.debug_session.specs.DebugState
pub use Rattle.debug_session.specs.Endings
pub use Rattle.debug_session.specs.Error
pub use Rattle.debug_session.specs.ExitStatus
pub use Rattle.debug_session.specs.Failing
pub use Rattle.debug_session.specs.Reports
pub use Rattle.debug_session.specs.Session
pub use Rattle.debug_session.specs.declared.session.DebugSession
pub use Rattle.debug_session.specs.declared.session.DebugSettings as DebugSessionDebugSetting
