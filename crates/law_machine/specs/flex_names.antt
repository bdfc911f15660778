-- The same by names of blocks. Begin with Names, then Laws.
pub mod Laws
pub mod Names
pub mod Runs
