-- The flex calls as SWIs. Begin with Calls.
pub use Rattle.swi_dispatch_plans.specs.flex_frame.Ground
pub use Rattle.flex_store.specs.State
pub use Rattle.flex_store.specs.declared.flex.Flex
pub mod Calls
pub mod Leaving
