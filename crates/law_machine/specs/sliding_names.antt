-- The same rules by names of flex blocks.
pub mod Named
