pub mod Naming
pub mod Packed
pub mod Removals
pub mod Tidied
