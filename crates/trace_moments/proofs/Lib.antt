pub mod LawReplayLemmas
pub mod FlexLemmas
pub mod FrameLemmas
pub mod ItemLemmas
pub mod WalkLemmas
pub mod LawTraceLemmas
pub mod StoredLemmas
pub mod FieldLemmas
