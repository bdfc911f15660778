-- The whole run of the subcommand `gdb`. Begin with Serving.
pub mod Renewed
pub mod Serving
pub mod Streams
