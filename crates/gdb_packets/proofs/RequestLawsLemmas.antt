pub mod ExactLemmas
pub mod PartLemmas
pub mod PieceLemmas
pub mod ReadLemmas
pub mod SoundLemmas
pub mod WordLemmas
