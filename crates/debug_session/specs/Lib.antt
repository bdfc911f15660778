-- What the lines of a debugging script are answered. Begin with DebugScript.
pub use Rattle.debug_lines.specs.DebugRequests
pub use Rattle.debug_lines.specs.Expectations
pub use Rattle.debug_lines.specs.Tidy
pub use Rattle.debug_modules.specs.Acts as PastActs
pub use Rattle.debug_modules.specs.Again as PastAgain
pub use Rattle.debug_modules.specs.DebugHistoryAnswers as PastAnswers
pub use Rattle.debug_modules.specs.DebugModesEndings as Endings
pub use Rattle.debug_modules.specs.Noted as PastNoted
pub use Rattle.debug_modules.specs.Past
pub use Rattle.debug_modules.specs.PastDeed
pub use Rattle.debug_modules.specs.PastFound
pub use Rattle.debug_modules.specs.ReportForm as DebugChecksReportForm
pub use Rattle.debug_modules.specs.Reports
pub use Rattle.debug_modules.specs.Search as PastSearch
pub use Rattle.debug_modules.specs.Sought
pub use Rattle.debug_tables.specs.Answers
pub use Rattle.debug_tables.specs.Calls
pub use Rattle.debug_tables.specs.Memory
pub use Rattle.debug_tables.specs.OutsideCall
pub use Rattle.debug_tables.specs.Routines
pub use Rattle.debug_tables.specs.Session as CommandShellSession
pub use Rattle.debug_tables.specs.State
pub use Rattle.debug_tables.specs.Stepping
pub use Rattle.debug_tables.specs.Stubs
pub use Rattle.debug_tables.specs.Writes
pub use Rattle.debug_tables.specs.byte_writes.Put
pub use Rattle.debug_tables.specs.Error
pub use Rattle.debug_modules.specs.Meters
pub use Rattle.debug_tables.specs.RunError
pub mod AsBefore
pub mod DebugScript
pub mod DebugState
pub mod ExitStatus
pub mod Failing
pub mod History
pub mod LastSteps
pub mod Looking
pub mod Naming
pub mod Noting
pub mod Refusals
pub mod Session
