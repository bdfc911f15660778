-- A script's answers for a caller in C. Begin with Answers.
pub mod Answers
