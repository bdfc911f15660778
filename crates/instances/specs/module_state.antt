-- What module calls act on. Begin with Module state, then Sound.
pub mod Kept
pub mod Laws
pub mod Records
pub mod Sound
pub mod ModuleState
