pub use Rattle.instances.proofs.TidyingLemmas.Choosing
pub use Rattle.instances.proofs.TidyingLemmas.LawLemmas
pub use Rattle.instances.proofs.TidyingLemmas.NameLemmas
pub use Rattle.instances.proofs.TidyingLemmas.Tidying
pub use Rattle.instances.proofs.ModuleStateLemmas.AreaLemmas
pub use Rattle.instances.proofs.ModuleStateLemmas.ModuleStates as InstancesModuleStates
pub mod Calls
pub mod Kept
pub mod Starts
pub mod ModuleStates
