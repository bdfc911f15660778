pub mod OptionLemmas
pub mod StartLemmas
pub mod WordLemmas
