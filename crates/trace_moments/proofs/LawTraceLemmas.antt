pub mod LeavingLemmas
pub mod PlainLemmas
pub mod StoreLemmas
