pub mod AreaAnswers
pub mod AreasKept
pub mod Leaving
