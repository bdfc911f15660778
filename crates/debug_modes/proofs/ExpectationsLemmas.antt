pub mod DumpLemmas
pub mod EndingLemmas
pub mod LineLemmas
pub mod ReportsLemmas
