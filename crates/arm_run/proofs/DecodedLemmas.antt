pub mod PlainLemmas
pub mod TransferLemmas
pub mod BlockLemmas
