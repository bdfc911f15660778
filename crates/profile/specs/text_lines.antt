-- Where the reading of lines stands, and which lines of a text have their end.
pub mod Lines
pub mod WholeLines
