-- What is left of a module call. Begin with Plans.
pub use Rattle.profile.specs.images.module_header.Header as ModuleHeaderHeader
pub use Rattle.profile.specs.declared.images.module_header.fault.HeaderFault
pub use Rattle.profile.specs.declared.images.module_header.header.Header
pub mod Calls
pub mod Carrying
pub mod Code
pub mod Doable
pub mod Laws
pub mod Plans
