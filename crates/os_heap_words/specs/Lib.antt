-- One heap as its words, in guest memory: what a call on it finds, and what it leaves. Begin with
-- Outcomes.
pub use Rattle.address_map.specs.Bytes
pub use Rattle.address_map.specs.Classes
pub use Rattle.address_map.specs.Counts
pub use Rattle.address_map.specs.ErrorNumber
pub use Rattle.address_map.specs.Items
pub use Rattle.address_map.specs.Memory
pub use Rattle.address_map.specs.MemoryMap
pub use Rattle.address_map.specs.Moves
pub use Rattle.address_map.specs.Outcome
pub use Rattle.address_map.specs.RawStoreRegion
pub use Rattle.address_map.specs.Records
pub use Rattle.address_map.specs.declared.class.Class
pub use Rattle.address_map.specs.declared.follow.BlockMove
pub use Rattle.address_map.specs.declared.item.Item
pub use Rattle.address_map.specs.declared.map.AddressMap
pub use Rattle.address_map.specs.declared.region.Kind
pub use Rattle.address_map.specs.declared.region.Region
pub mod Cursors
pub mod Kept
pub mod Marks
pub mod Outcomes
pub mod lists
