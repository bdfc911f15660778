pub mod Choosing
pub mod Following
pub mod FoundBlocks
pub mod LawLemmas
pub mod Looping
pub mod NameLemmas
pub mod Sides
pub mod Tidying
