pub use Rattle.debug_tables.proofs.CallLemmas as ShellCallLemmas
pub mod ActLemmas
pub mod AgainLemmas
pub mod AheadLemmas
pub mod CallNotedLemmas
pub mod LineNotedLemmas
pub mod LinesLemmas
pub mod LookingLemmas
pub mod NotedLemmas
pub mod PastLemmas
pub mod PieceLemmas
pub mod ScanLemmas
pub mod SearchLemmas
pub mod StepLemmas
pub mod UndoLemmas
