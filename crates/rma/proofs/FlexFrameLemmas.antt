pub mod Keeping
pub mod Heaps
pub mod Areas
pub mod Slides
pub mod Writes
