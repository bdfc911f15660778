-- Which tool a word names.
pub mod Subcommands
pub mod debug
pub mod gdb
