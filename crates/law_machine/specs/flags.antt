-- Results and flags by exact numbers.
pub mod Flags
