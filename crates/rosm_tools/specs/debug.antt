-- The words, the exit status and the saved bytes of the subcommand `debug`.
pub mod Endings
pub mod Options
pub mod Saves
