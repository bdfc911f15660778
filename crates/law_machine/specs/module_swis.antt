-- SWIs of modules, from their call to their return.
pub mod Swis
