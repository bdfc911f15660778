pub mod Lent
pub mod Memory
pub mod Pieces
pub mod Two
pub mod Values
pub mod Walks
pub mod Written
