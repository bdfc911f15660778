-- What is kept of a machine's store before a call, and the words of memory that the call changes. Begin with Words.
pub use Rattle.swi_dispatch_guest.specs.Area
pub use Rattle.swi_dispatch_guest.specs.Extent
pub use Rattle.swi_dispatch_guest.specs.Flex
pub use Rattle.swi_dispatch_guest.specs.FlexBlock
pub use Rattle.swi_dispatch_guest.specs.Frames
pub use Rattle.swi_dispatch_guest.specs.Heap
pub use Rattle.swi_dispatch_guest.specs.HeapCalls as Calls
pub use Rattle.swi_dispatch_guest.specs.Listed
pub use Rattle.swi_dispatch_guest.specs.Memory
pub use Rattle.swi_dispatch_guest.specs.State
pub use Rattle.swi_dispatch_guest.specs.Store
pub mod Copies
pub mod Laws
pub mod Pages
pub mod Words
