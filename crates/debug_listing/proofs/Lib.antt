pub mod BlockErrorLemmas
pub mod ComparingLemmas
pub mod ListingLemmas
pub mod RunMeterLemmas
pub mod SourceLemmas
pub mod TableLemmas
pub mod TextLemmas
