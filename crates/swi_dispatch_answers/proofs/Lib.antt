mod ErrorBlock
mod StringLemmas
pub mod FramesLemmas
