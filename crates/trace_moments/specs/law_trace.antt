-- Laws of traces.
pub mod Laws
