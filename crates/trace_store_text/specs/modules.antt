-- Instances of modules as a trace shows them. Begin with Changes.
pub mod Changes
pub mod Laws
pub mod Marks
