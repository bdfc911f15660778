pub use Rattle.arm_step.proofs.AddressMapWords as Words
pub use Rattle.arm_step.proofs.Framing
pub mod Beside
pub mod Blocked
pub mod Carried
pub mod Fetching
pub mod Jumped
pub mod Multiplied
pub mod OperandsRead
pub mod Positions
pub mod StepByStep
pub mod SumsLed
pub mod Transferred
pub mod DecodedLemmas
