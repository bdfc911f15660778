pub mod StringLemmas
pub mod InsideLemmas
pub mod RegisterLemmas
