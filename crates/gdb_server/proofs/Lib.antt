pub use Rattle.debug_session.proofs.FrontLemmas
pub use Rattle.debug_session.proofs.ImageLemmas
pub mod ServingLemmas
pub mod SessionLemmas
