pub mod Asking
pub mod Calls
pub mod Carrying
pub mod Giving
pub mod Near
pub mod Silent
pub mod Planning
