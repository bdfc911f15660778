-- Lists of modules, of their commands, of an assembled block and its errors, and of words that differ; and the meter
-- of a long run. Begin with Tables.
pub use Rattle.command_shell_lines.specs.Requests as CommandShellLinesRequests
pub use Rattle.debug_labels.specs.place_views.Places
pub use Rattle.debug_tables.specs.byte_writes.Put
pub mod BlockErrors
pub mod BlockErrorTexts
pub mod Commands
pub mod Comparing
pub mod Describing
pub mod ImageParts
pub mod Listing
pub mod Requests
pub mod SourceListing
pub mod Tables
pub mod Tails
pub mod run_meter
