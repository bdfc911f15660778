-- The law that records can be replayed. Begin with Laws; Steps says which frames a step keeps.
pub mod Laws
pub mod Steps
