-- What a command line asks for. Begin with Settings.
pub mod Reasons
pub mod Settings
pub mod Texts
