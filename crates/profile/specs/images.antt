-- The table of images. Begin with Table.
pub mod Entries
pub mod ErrorNames
pub mod Table
pub mod module_header
