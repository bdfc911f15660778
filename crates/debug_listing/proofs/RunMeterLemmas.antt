-- A run in slices is one run.
pub mod SliceLemmas
