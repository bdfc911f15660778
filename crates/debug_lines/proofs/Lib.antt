pub mod BlockEndLemmas
pub mod OpenerLemmas
pub mod OwnRequestLemmas
pub mod WholeDebugRequestLemmas
pub mod WordLemmas
