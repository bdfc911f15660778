pub use Rattle.address_map.proofs.Anchors
pub use Rattle.address_map.proofs.Bytes
pub use Rattle.address_map.proofs.Counting
pub use Rattle.address_map.proofs.Equations
pub use Rattle.address_map.proofs.InRange
pub use Rattle.address_map.proofs.Lengths
pub use Rattle.address_map.proofs.Marking as AddressMapMarking
pub use Rattle.address_map.proofs.Moving
pub use Rattle.address_map.proofs.Spans
pub use Rattle.address_map.proofs.Stores
pub use Rattle.address_map.proofs.Viewing
pub use Rattle.address_map.proofs.Words as AddressMapWords
pub mod Claiming
pub mod Freeing
pub mod Linking
pub mod Marking
pub mod Refitted
pub mod Refitting
pub mod Replace
pub mod Rest
pub mod Searching
pub mod Tally
pub mod Walking
pub mod Writing
pub mod ListsLemmas
