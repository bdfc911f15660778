-- What is shown of lines that expect something and of refusals, and what stands after the last line.
pub mod Reports
