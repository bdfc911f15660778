-- What a source means: its program, or its first fault. Begin with Passes, then Line.
pub mod Directives
pub mod ErrorNames
pub mod ErrorTexts
pub mod Laws
pub mod Line
pub mod Passes
pub mod Written
pub mod assembled
