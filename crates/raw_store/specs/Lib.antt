-- A region of bytes, and the names and places that all crates share. Begin with Region, MemoryMap and
-- Outcome; Lends, Ownership, Store and StoreLends are about ownership and loans.
pub mod ErrorNames
pub mod FaultNames
pub mod Lends
pub mod MemoryMap
pub mod Outcome
pub mod Ownership
pub mod Region
pub mod Store
pub mod StoreLends
