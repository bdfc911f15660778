-- The words of memory that an instruction moves, as words of its line.
pub mod Loaded
pub mod Stored
