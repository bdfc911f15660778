-- Which bytes of live blocks change. Begin with Changes, then Runs.
pub mod AreaLaws
pub mod Changes
pub mod FlexLaws
pub mod FlexPlaces
pub mod HeapWrites
pub mod Runs
