pub mod ImageFilesLemmas
pub mod StreamLemmas
pub mod TextLemmas
pub mod CommandLineLemmas
pub mod GdbLemmas
pub mod SavedFilesLemmas
