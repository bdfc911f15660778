-- How often the steps of a debugger are taken at each word of memory. Begin with Counts.
pub mod Counts
pub mod Laws
