pub mod GdbLemmas
