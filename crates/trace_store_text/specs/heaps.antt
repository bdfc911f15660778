-- Heaps as a store call leaves them. Begin with Limits.
pub mod Limits
