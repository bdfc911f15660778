-- What predecoded words do. Begin with Effects, then Laws.
pub mod Effects
pub mod Laws
