pub mod Beginnings
pub mod ItemLemmas
pub mod PassLemmas
pub mod PrintedLines
pub mod PrintedPrograms
pub mod SizeLemmas
pub mod Unbroken
pub mod AssembledLemmas
