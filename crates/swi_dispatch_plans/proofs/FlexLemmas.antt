pub use Rattle.swi_dispatch_plans.proofs.FlexFrameLemmas.Kept
pub mod Called
pub mod Made
