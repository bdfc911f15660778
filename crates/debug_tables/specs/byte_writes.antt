-- What bytes that are written from outside leave, and where they are refused; and where bytes stand.
pub mod Find
pub mod Put
