-- The words of memory that are shown, and how they are replayed. Begin with Replay.
pub mod Replay
