pub mod Carrying
pub mod Doable
pub mod Refusing
