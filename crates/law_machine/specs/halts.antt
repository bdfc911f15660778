-- What halts and refusals leave. Begin with Halts.
pub mod Halts
pub mod LateErrors
pub mod Refusals
