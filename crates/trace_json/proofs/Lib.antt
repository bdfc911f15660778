-- What proofs beside the functions share.
pub mod MomentLemmas
pub use Rattle.trace_moments.proofs.LawReplayLemmas.PrefixLemmas
