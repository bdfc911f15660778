-- The meaning of a source, stated without passes. Begin with Programs and Refusals; Laws ties them to
-- the passes.
pub mod Laws
pub mod Lists
pub mod Pieces
pub mod Programs
pub mod Refusals
