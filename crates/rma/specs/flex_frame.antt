-- What of the flex store other calls keep. Begin with Keeping.
pub mod Keeping
pub mod Laws
