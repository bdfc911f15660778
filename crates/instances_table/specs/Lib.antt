-- The list of modules and their instances. Begin with Modules, then Lookup and Additions.
pub use Rattle.profile.specs.ErrorNames
pub use Rattle.profile.specs.ErrorNumber
pub use Rattle.profile.specs.MemoryMap
pub use Rattle.profile.specs.Outcome
pub use Rattle.profile.specs.Sizes
pub mod Additions
pub mod Changes
pub mod Images
pub mod Lookup
pub mod ModuleArea
pub mod Modules
pub mod Names
pub mod Table
pub mod plans
