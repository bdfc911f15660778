pub use Rattle.rma.proofs.FlexFrameLemmas.Areas as FlexAreas
pub use Rattle.rma.proofs.FlexFrameLemmas.Heaps
pub use Rattle.rma.proofs.FlexFrameLemmas.Keeping as RmaKeeping
pub use Rattle.rma.proofs.FlexFrameLemmas.Writes
pub use Rattle.rma.proofs.HeapCalls
pub use Rattle.rma.proofs.ImageLemmas
pub use Rattle.rma.proofs.InPlaceLemmas
pub use Rattle.rma.proofs.RoomLemmas
pub use Rattle.rma.proofs.SystemPages
pub use Rattle.rma.proofs.SystemWrites
pub mod AddingLemmas
pub mod Carrying
pub mod DoableLemmas
pub mod GoingOn
pub mod Handling
pub mod Keeping
pub mod NamedByCalls
pub mod Naming
pub mod NextCode
pub mod ReadyLemmas
pub mod Turning
pub mod ModuleStateLemmas
pub mod ActionsLemmas
pub mod TidyingLemmas
