-- The whole run of the program. Begin with Answering.
pub mod Answering
pub mod Endings
pub mod ImageFiles
pub mod SavedFiles
pub mod Texts
pub mod command_line
pub mod gdb
