-- The items of a heap that a store call makes and takes away. Begin with Changes.
pub mod Changes
pub mod Laws
pub mod Places
