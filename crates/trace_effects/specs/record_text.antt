-- How a record is spelt.
pub mod Spelling
