pub mod Exact
pub mod Flags
