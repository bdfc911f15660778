pub mod PrefixLemmas
pub mod StepLemmas
