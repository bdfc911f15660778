pub mod Answering
pub mod Keeping
