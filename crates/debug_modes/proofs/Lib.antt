pub mod ChangeLemmas
pub mod CountingLemmas
pub mod ExpectationsLemmas
