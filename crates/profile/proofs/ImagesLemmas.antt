pub mod EntriesLemmas
pub mod ModuleHeaderLemmas
