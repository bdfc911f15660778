pub use Rattle.arm_decode.proofs.LineLemmas
pub mod Pieces
pub mod Rotations
pub mod Listed
pub mod NamingLemmas
