-- What is made of the words of a command line, what is answered, and the exit status. Begin with
-- Talking, then Transcript.
pub mod Answering
pub mod FrontLines
pub mod GivenText
pub mod GoingOn
pub mod Including
pub mod IncludingScript
pub mod Shown
pub mod Spelling
pub mod Talking
pub mod Transcript
pub mod Typing
pub use Rattle.debug_session.specs.RunError
