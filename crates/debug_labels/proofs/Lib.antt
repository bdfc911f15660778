pub use Rattle.debugger.proofs.MemoryLemmas
pub mod LineLemmas
pub mod ModuleSwiLemmas
pub mod WalkLemmas
pub mod PlaceViewsLemmas
