-- Which steps of a machine are turns of its stores. Begin with Turns, then Laws.
pub mod Laws
pub mod MachineStores
pub mod Reported
pub mod Turns
