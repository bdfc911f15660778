-- A tidy of the module area. Begin with Slid.
pub mod Laws
pub mod Movable
pub mod Slid
