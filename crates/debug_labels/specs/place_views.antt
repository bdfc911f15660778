-- The text of each view. Begin with Places.
pub mod Frames
pub mod Places
pub mod Stack
