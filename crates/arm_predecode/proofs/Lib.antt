pub mod Known
pub mod Others
pub mod SameKinds
