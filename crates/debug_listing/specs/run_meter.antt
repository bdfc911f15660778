-- The meter of a long run.
pub mod Meters
