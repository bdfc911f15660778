pub mod Restoring
pub mod Saving
