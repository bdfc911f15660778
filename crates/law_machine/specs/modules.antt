-- Which blocks a tidy moves, and who is preferred after a removal.
pub mod Preferred
pub mod Tidied
