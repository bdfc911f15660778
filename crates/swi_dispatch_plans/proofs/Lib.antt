pub use Rattle.instances.proofs.GoingOn
pub use Rattle.instances.proofs.HeapCalls
pub use Rattle.instances.proofs.ModuleStateLemmas.ModuleStates
pub use Rattle.instances.proofs.ModuleStateLemmas.Starting
pub use Rattle.instances.proofs.NamedByCalls
pub use Rattle.instances.proofs.RmaKeeping as Keeping
pub use Rattle.instances.proofs.SystemPages
pub use Rattle.instances.proofs.SystemWrites
pub use Rattle.instances.proofs.Writes
pub mod AnswerLemmas
pub mod Beginning
pub mod ModuleCode
pub mod Sparing
pub mod Trials
pub mod StoreLemmas
pub mod ModulesLemmas
pub mod FlexLemmas
pub mod FlexFrameLemmas
