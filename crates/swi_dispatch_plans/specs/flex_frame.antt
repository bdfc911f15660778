-- What the flex store is on a machine's memory. Begin with Ground; the laws say that calls keep it.
pub use Rattle.instances.specs.tidying
pub use Rattle.instances.specs.module_state
pub mod CallLaws
pub mod Ground
pub mod Laws
pub mod ModuleStateLaws
