pub mod FrameLemmas
pub mod StackLemmas
