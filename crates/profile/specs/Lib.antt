-- Words, names, numbers and devices. MemoryMap and Word are what most crates cite; Outcome is for
-- calls that may refuse.
pub use Rattle.raw_store.specs.ErrorNames
pub use Rattle.raw_store.specs.FaultNames
pub use Rattle.raw_store.specs.MemoryMap
pub use Rattle.raw_store.specs.Outcome
pub use Rattle.raw_store.specs.declared.error.ErrorNumber
pub use Rattle.raw_store.specs.declared.fault.Fault
pub mod Devices
pub mod Digits
pub mod Firsts
pub mod MemoryDevices
pub mod Output
pub mod Pulls
pub mod Reasons
pub mod Sizes
pub mod Status
pub mod Sums
pub mod SwiNames
pub mod Word
pub mod text_lines
pub mod text_sink
pub mod images
