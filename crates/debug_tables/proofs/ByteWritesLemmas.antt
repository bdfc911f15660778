pub mod FindLemmas
pub mod PutLemmas
pub mod WordLemmas
