-- The rules of flex calls and slides, without addresses. Begin with Meaning and Rules, then Laws.
pub use Rattle.swi_dispatch_guest.specs.Ground
pub mod Besides
pub mod FlexStore
pub mod Laws
pub mod Meaning
pub mod Room
pub mod Rules
pub mod Turning
