-- What the laws of the whole machine are about: first heaps, flex and sliding.
pub use Rattle.instances.specs.Reading
pub use Rattle.instances.specs.declared.answers.Start
pub use Rattle.instances.specs.module_state.ModuleState
pub use Rattle.os_heap.specs.Store
pub use Rattle.os_heap_words.specs.lists.Heap
pub use Rattle.swi_dispatch_guest.specs.Additions
pub use Rattle.swi_dispatch_guest.specs.Answers
pub use Rattle.swi_dispatch_guest.specs.Areas
pub use Rattle.swi_dispatch_guest.specs.ArmStepBlocks as Blocks
pub use Rattle.swi_dispatch_guest.specs.ArmStepStep as Step
pub use Rattle.swi_dispatch_guest.specs.Calls
pub use Rattle.swi_dispatch_guest.specs.Gates
pub use Rattle.swi_dispatch_guest.specs.Heaps
pub use Rattle.swi_dispatch_guest.specs.ImagePlans
pub use Rattle.swi_dispatch_guest.specs.ModulePlans
pub use Rattle.swi_dispatch_guest.specs.ModuleStart
pub use Rattle.swi_dispatch_guest.specs.Moves as SwiDispatchGuestMoves
pub use Rattle.swi_dispatch_guest.specs.Naming
pub use Rattle.swi_dispatch_guest.specs.Opening
pub use Rattle.swi_dispatch_guest.specs.Openings
pub use Rattle.swi_dispatch_guest.specs.Returns
pub use Rattle.swi_dispatch_guest.specs.SwiDispatchFlexCalls as SwiDispatchPlansCalls
pub use Rattle.swi_dispatch_guest.specs.SwiDispatchPlansCalls as SwiDispatchPlansModulesCalls
pub use Rattle.swi_dispatch_guest.specs.Transfers
pub use Rattle.swi_dispatch_guest.specs.Trials
pub use Rattle.swi_dispatch_guest.specs.Value
pub use Rattle.swi_dispatch_guest.specs.declared.halt.Halt
pub use Rattle.swi_dispatch_guest.specs.law_frames.Frames
pub mod flex
pub mod flex_names
pub mod sliding_stores
pub mod sliding_names
pub mod heap_calls
pub mod heap_frame
pub mod modules
pub mod heap_alone
pub mod live_bytes
pub mod other_bytes
pub mod module_heaps
pub mod heap_runs
pub mod module_swis
pub mod halts
pub mod sliding
pub mod moves
pub mod flags
