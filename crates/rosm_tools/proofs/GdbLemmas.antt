pub mod RenewedLemmas
pub mod ServeLemmas
pub mod StreamLemmas
