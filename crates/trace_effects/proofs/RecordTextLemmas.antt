pub mod SpellingLemmas
pub mod WritingLemmas
