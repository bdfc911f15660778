-- The text of each view, a file for each, and of the pieces that answers are made of.
pub mod Banks
pub mod Quoted
pub mod Words
