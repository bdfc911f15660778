-- Lines that enter the code of loaded modules. Begin with Answers, over Plans and Entering.
pub use Rattle.debug_history.specs.Acts
pub use Rattle.debug_history.specs.Again
pub use Rattle.debug_history.specs.Answers as DebugHistoryAnswers
pub use Rattle.debug_history.specs.DebugLabelsLines
pub use Rattle.debug_history.specs.Laws as DebugHistoryLaws
pub use Rattle.debug_history.specs.Lines as DebugHistoryLines
pub use Rattle.debug_history.specs.Noted
pub use Rattle.debug_history.specs.Past
pub use Rattle.debug_history.specs.Reasons
pub use Rattle.debug_history.specs.Search
pub use Rattle.debug_history.specs.Steps
pub use Rattle.debug_history.specs.declared.act.Act
pub use Rattle.debug_history.specs.declared.act.PastDeed
pub use Rattle.debug_history.specs.declared.lines.PastCommand
pub use Rattle.debug_history.specs.declared.noting.SteppingNote
pub use Rattle.debug_history.specs.declared.search.PastFound
pub use Rattle.debug_history.specs.declared.search.Sought
pub use Rattle.debug_listing.specs.BlockErrorTexts
pub use Rattle.debug_listing.specs.BlockErrors
pub use Rattle.debug_listing.specs.Places
pub use Rattle.debug_listing.specs.Requests
pub use Rattle.debug_listing.specs.SourceListing
pub use Rattle.debug_listing.specs.run_meter.Meters
pub use Rattle.debug_modes.specs.Changes
pub use Rattle.debug_modes.specs.Counting
pub use Rattle.debug_modes.specs.Modes
pub use Rattle.debug_modes.specs.OwnAnswers
pub use Rattle.debug_modes.specs.ViewTexts
pub use Rattle.debug_modes.specs.declared.expectations.reports.reports.CheckTally
pub use Rattle.debug_modes.specs.declared.expectations.reports.reports.ReportForm
pub use Rattle.debug_modes.specs.declared.modes.DebugModes
pub use Rattle.debug_modes.specs.expectations.Checks
pub use Rattle.debug_modes.specs.expectations.Endings as DebugModesEndings
pub use Rattle.debug_modes.specs.expectations.Flex
pub use Rattle.debug_modes.specs.expectations.Halted
pub use Rattle.debug_modes.specs.expectations.Heap
pub use Rattle.debug_modes.specs.expectations.Why
pub use Rattle.debug_modes.specs.expectations.reports.Reports
pub use Rattle.debug_runs.specs.Endings
pub use Rattle.debug_runs.specs.Labels
pub use Rattle.debug_runs.specs.Lines
pub use Rattle.debug_runs.specs.Runs
pub use Rattle.debug_runs.specs.TraceWriter
pub use Rattle.debug_runs.specs.Words
pub use Rattle.debug_runs.specs.declared.endings.EndKind
pub use Rattle.debug_runs.specs.declared.running.RunEnd
pub use Rattle.debug_runs.specs.declared.running.RunGoal
pub mod Answers
pub mod Entering
pub mod Laws
pub mod Plans
pub mod Services
pub mod Taking
