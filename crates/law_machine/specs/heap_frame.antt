-- What all other calls leave of a guest's heap. Begin with GuestLaws; each family of calls has a
-- file of its own.
pub mod AreaLaws
pub mod BlockLaws
pub mod FitAreaStores
pub mod Fits
pub mod FlexLaws
pub mod ForgettingLaws
pub mod GuestLaws
pub mod HeapLaws
pub mod ModuleAreaLaws
pub mod PlanLaws
pub mod SlideLaws
pub mod TurnLaws
