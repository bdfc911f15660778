-- What two cores differ in. Begin with Registers; Laws says what the list of them is good for.
pub mod Laws
pub mod Registers
pub mod Status
