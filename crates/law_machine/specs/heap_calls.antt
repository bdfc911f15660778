-- One heap by itself. Begin with Alone and Turns, then Laws.
pub mod Alone
pub mod Forgotten
pub mod Growths
pub mod Laws
pub mod Lists
pub mod Turns
