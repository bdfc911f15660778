pub mod FrameLemmas
pub mod NumberLemmas
pub mod ReadingLemmas
pub mod RequestLawsLemmas
