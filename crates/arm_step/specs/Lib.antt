-- What one instruction leaves. Begin with Step; each family of instructions has a file of its own.
pub use Rattle.address_map.specs.Bytes
pub use Rattle.address_map.specs.Lent
pub use Rattle.address_map.specs.Memory
pub use Rattle.address_map.specs.declared.map.AddressMap
pub use Rattle.arm_core.specs.State
pub use Rattle.arm_core.specs.declared.psr.Mode as ArmCoreMode
pub use Rattle.arm_core.specs.declared.psr.Psr as ArmCorePsr
pub use Rattle.arm_decode.specs.declared.address.Address
pub use Rattle.arm_decode.specs.declared.shifted.Shifted
pub mod Back
pub mod BlockOrder
pub mod Blocks
pub mod OwnedBytes
pub mod PageWords
pub mod Step
pub mod StoredBase
pub mod Transfers
pub mod Turns
pub mod Words
pub mod fetch_page
