pub mod LineLemmas
pub mod WholeLineLemmas
