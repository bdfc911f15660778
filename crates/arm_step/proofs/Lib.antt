pub use Rattle.address_map.proofs.Bytes
pub use Rattle.address_map.proofs.Lending
pub use Rattle.address_map.proofs.Loads
pub use Rattle.address_map.proofs.Words as AddressMapWords
pub mod Back
pub mod Framing
pub mod InOrder
pub mod PageBlocks
pub mod PageWords
pub mod Placing
pub mod Restoring
pub mod SeveralWords
pub mod FetchPageLemmas
