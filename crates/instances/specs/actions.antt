-- What each action of a plan does. Begin with Actions.
pub mod Actions
pub mod Asked
pub mod Codes
pub mod Laws
pub mod Pending
pub mod Ready
