-- The addresses at which a run stops.
pub mod BreakErrors
pub mod Breaks
