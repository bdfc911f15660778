-- Module code that is under way. Begin with Frames, then Entering and Leaving.
pub mod Busy
pub mod Entering
pub mod Frames
pub mod Leaving
