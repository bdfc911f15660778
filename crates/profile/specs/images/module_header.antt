-- A module's header, as its image's bytes spell it. Begin with Header.
pub mod FaultTexts
pub mod Header
pub mod Swis
pub mod Title
pub mod Words
