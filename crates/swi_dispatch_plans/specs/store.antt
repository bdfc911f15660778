-- The calls on heaps and areas as SWIs. Begin with Heaps and Areas.
pub mod Areas
pub mod Heaps
pub mod Leaving
