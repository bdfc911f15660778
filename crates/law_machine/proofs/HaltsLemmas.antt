pub mod Answering
pub mod Halting
pub mod LateErrors
pub mod Refusing
