pub mod FlexLemmas
pub mod HeapLemmas
pub mod ImageLemmas
pub mod LineLemmas
pub mod ItemsLemmas
pub mod ModulesLemmas
pub mod FlexProofs
pub mod HeapsLemmas
