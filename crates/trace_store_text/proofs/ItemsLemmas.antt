pub mod ChangeLemmas
pub mod LawLemmas
pub mod MadeLemmas
pub mod PlaceLemmas
pub mod WalkLemmas
