-- Predecoded words: what is known of each. Begin with OpValue, then Kinds.
pub mod Kinds
pub mod OpValue
