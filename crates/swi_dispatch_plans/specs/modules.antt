-- OS_Module, the reasons that run no module code. Begin with Calls.
pub mod Area
pub mod Calls
pub mod Leaving
pub mod Naming
