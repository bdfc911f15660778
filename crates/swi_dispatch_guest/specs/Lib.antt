-- The written machine. Begin with MachineState and Step; Run has many steps, GuestState and Value tie
-- it to the real machine.
pub use Rattle.arm_run.specs.ArmCorePsr as Psr
pub use Rattle.arm_run.specs.Blocks as ArmStepBlocks
pub use Rattle.arm_run.specs.BreakError
pub use Rattle.arm_run.specs.Breaks
pub use Rattle.arm_run.specs.Conditions
pub use Rattle.arm_run.specs.Effect
pub use Rattle.arm_run.specs.Mode as ArmCoreMode
pub use Rattle.arm_run.specs.Operate
pub use Rattle.arm_run.specs.Psr as ArmCorePsr
pub use Rattle.arm_run.specs.State as ArmCoreState
pub use Rattle.arm_run.specs.Step as ArmStepStep
pub use Rattle.arm_run.specs.StepEnd
pub use Rattle.arm_run.specs.Transfers
pub use Rattle.arm_run.specs.Words
pub use Rattle.os_heap.specs.AddressMap
pub use Rattle.os_heap.specs.Bytes
pub use Rattle.os_heap.specs.Calls as HeapCalls
pub use Rattle.os_heap.specs.Heap
pub use Rattle.os_heap.specs.Item
pub use Rattle.os_heap.specs.Items
pub use Rattle.os_heap.specs.Memory as AddressMapMemory
pub use Rattle.os_heap.specs.Payloads
pub use Rattle.os_heap.specs.Store
pub use Rattle.os_heap.specs.declared.payload.Payload
pub use Rattle.os_heap.specs.lists
pub use Rattle.profile.specs.Fault
pub use Rattle.profile.specs.Output
pub use Rattle.profile.specs.Sums
pub use Rattle.swi_dispatch_plans.specs.Area
pub use Rattle.swi_dispatch_plans.specs.Areas as DynamicAreasAreas
pub use Rattle.swi_dispatch_plans.specs.Blocks
pub use Rattle.swi_dispatch_plans.specs.Busy
pub use Rattle.swi_dispatch_plans.specs.Call
pub use Rattle.swi_dispatch_plans.specs.CodeKind
pub use Rattle.swi_dispatch_plans.specs.Entering
pub use Rattle.swi_dispatch_plans.specs.Errors as SwiDispatchAnswersErrors
pub use Rattle.swi_dispatch_plans.specs.Extent
pub use Rattle.swi_dispatch_plans.specs.FlexBlock
pub use Rattle.swi_dispatch_plans.specs.FlexStoreFlex as Flex
pub use Rattle.swi_dispatch_plans.specs.Frame as SwiDispatchAnswersFrame
pub use Rattle.swi_dispatch_plans.specs.FrameKind
pub use Rattle.swi_dispatch_plans.specs.Frames
pub use Rattle.swi_dispatch_plans.specs.Ground as DynamicAreasGround
pub use Rattle.swi_dispatch_plans.specs.ImagePlans
pub use Rattle.swi_dispatch_plans.specs.InstanceInfo
pub use Rattle.swi_dispatch_plans.specs.InstancesTableModules as Modules
pub use Rattle.swi_dispatch_plans.specs.Leaving
pub use Rattle.swi_dispatch_plans.specs.Listed
pub use Rattle.swi_dispatch_plans.specs.Lookup
pub use Rattle.swi_dispatch_plans.specs.Memory
pub use Rattle.swi_dispatch_plans.specs.ModuleInfo
pub use Rattle.swi_dispatch_plans.specs.ModulePlans
pub use Rattle.swi_dispatch_plans.specs.Openings
pub use Rattle.swi_dispatch_plans.specs.PageCounts
pub use Rattle.swi_dispatch_plans.specs.PlannerInput
pub use Rattle.swi_dispatch_plans.specs.Reading
pub use Rattle.swi_dispatch_plans.specs.Refusal
pub use Rattle.swi_dispatch_plans.specs.Refusals
pub use Rattle.swi_dispatch_plans.specs.Returns as SwiDispatchAnswersReturns
pub use Rattle.swi_dispatch_plans.specs.Rooms
pub use Rattle.swi_dispatch_plans.specs.State
pub use Rattle.swi_dispatch_plans.specs.Strings
pub use Rattle.swi_dispatch_plans.specs.TextEnd
pub use Rattle.swi_dispatch_plans.specs.Trials
pub use Rattle.swi_dispatch_plans.specs.Words as SwiDispatchAnswersWords
pub use Rattle.swi_dispatch_plans.specs.declared.image_plans.ImageRange
pub use Rattle.swi_dispatch_plans.specs.declared.openings.Opening
pub use Rattle.swi_dispatch_plans.specs.flex.Calls as SwiDispatchFlexCalls
pub use Rattle.swi_dispatch_plans.specs.flex_frame.Ground
pub use Rattle.swi_dispatch_plans.specs.flex_frame.module_state.ModuleState
pub use Rattle.swi_dispatch_plans.specs.flex_frame.module_state.Sound
pub use Rattle.swi_dispatch_plans.specs.flex_frame.tidying.Laws
pub use Rattle.swi_dispatch_plans.specs.flex_frame.tidying.Movable
pub use Rattle.swi_dispatch_plans.specs.flex_frame.tidying.Slid
pub use Rattle.swi_dispatch_plans.specs.modules.Calls as SwiDispatchPlansCalls
pub use Rattle.swi_dispatch_plans.specs.modules.Naming
pub use Rattle.swi_dispatch_plans.specs.store.Areas
pub use Rattle.swi_dispatch_plans.specs.store.Heaps
pub mod Additions
pub mod Answers
pub mod Boot
pub mod BootErrors
pub mod Calls
pub mod Carried
pub mod Ending
pub mod Errors
pub mod Gates
pub mod MachineState
pub mod ModuleStart
pub mod Moves
pub mod OpenFrames
pub mod GuestState
pub mod Returns
pub mod Run
pub mod Step
pub mod Value
pub mod Writes
pub mod law_frames
