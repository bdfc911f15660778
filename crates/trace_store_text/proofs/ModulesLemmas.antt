pub mod LawLemmas
pub mod MarkLemmas
