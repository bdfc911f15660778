-- What memory is to guests and store calls. Begin with Bytes, then Records; Memory ties both to the
-- map.
pub use Rattle.raw_store.specs.declared.error.ErrorNumber
pub use Rattle.raw_store.specs.MemoryMap
pub use Rattle.raw_store.specs.Outcome
pub use Rattle.raw_store.specs.Region as RawStoreRegion
pub mod Bytes
pub mod Classes
pub mod Counts
pub mod Items
pub mod Lent
pub mod Marks
pub mod Memory
pub mod Moves
pub mod Pages
pub mod Records
