pub mod Entering
pub mod Returning
