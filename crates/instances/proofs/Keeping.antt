-- What keeps the flex store where nothing happens to it.
pub use Rattle.rma.proofs.FlexFrameLemmas.Keeping.{keeps_same}
