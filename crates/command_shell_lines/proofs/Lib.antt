pub mod BlockLemmas
pub mod HexLemmas
pub mod LineLemmas
pub mod NamedByteLemmas
pub mod NumberLemmas
pub mod PullLemmas
pub mod ReadLemmas
