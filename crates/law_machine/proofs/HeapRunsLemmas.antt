pub mod Asides
pub mod Ends
pub mod Fronts
pub mod Halves
