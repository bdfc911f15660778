pub mod Comparing
pub mod Exchanging
pub mod Listing
pub mod Lowest
pub mod OperandWords
pub mod RegisterWords
pub mod Turning
pub mod BreaksLemmas
