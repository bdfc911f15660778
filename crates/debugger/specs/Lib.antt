-- The text of each view, a file for each.
pub use Rattle.assembler_text.specs.Printing
pub use Rattle.swi_dispatch_guest.specs.AddressMapMemory
pub use Rattle.swi_dispatch_guest.specs.ArmCoreMode as Mode
pub use Rattle.swi_dispatch_guest.specs.ArmCorePsr as Psr
pub use Rattle.swi_dispatch_guest.specs.ArmCoreState as State
pub use Rattle.swi_dispatch_guest.specs.ArmStepBlocks as Blocks
pub use Rattle.swi_dispatch_guest.specs.ArmStepStep
pub use Rattle.swi_dispatch_guest.specs.Boot
pub use Rattle.swi_dispatch_guest.specs.BreakError
pub use Rattle.swi_dispatch_guest.specs.Breaks
pub use Rattle.swi_dispatch_guest.specs.Bytes
pub use Rattle.swi_dispatch_guest.specs.CodeKind
pub use Rattle.swi_dispatch_guest.specs.Conditions
pub use Rattle.swi_dispatch_guest.specs.Effect
pub use Rattle.swi_dispatch_guest.specs.Errors
pub use Rattle.swi_dispatch_guest.specs.FrameKind
pub use Rattle.swi_dispatch_guest.specs.GuestState
pub use Rattle.swi_dispatch_guest.specs.Lookup
pub use Rattle.swi_dispatch_guest.specs.MachineState
pub use Rattle.swi_dispatch_guest.specs.ModuleInfo
pub use Rattle.swi_dispatch_guest.specs.Modules as InstancesTableModules
pub use Rattle.swi_dispatch_guest.specs.Operate
pub use Rattle.swi_dispatch_guest.specs.Payload
pub use Rattle.swi_dispatch_guest.specs.Payloads
pub use Rattle.swi_dispatch_guest.specs.Psr as ArmCorePsr
pub use Rattle.swi_dispatch_guest.specs.Reading
pub use Rattle.swi_dispatch_guest.specs.Run
pub use Rattle.swi_dispatch_guest.specs.Step
pub use Rattle.swi_dispatch_guest.specs.StepEnd
pub use Rattle.swi_dispatch_guest.specs.Store
pub use Rattle.swi_dispatch_guest.specs.Strings
pub use Rattle.swi_dispatch_guest.specs.SwiDispatchAnswersFrame as Frame
pub use Rattle.swi_dispatch_guest.specs.TextEnd
pub use Rattle.swi_dispatch_guest.specs.Transfers
pub use Rattle.swi_dispatch_guest.specs.Value
pub use Rattle.swi_dispatch_guest.specs.Writes
pub use Rattle.swi_dispatch_guest.specs.declared.boot_error.BootError
pub use Rattle.swi_dispatch_guest.specs.declared.halt.Halt
pub mod Areas
pub mod Code
pub mod Flex
pub mod Heap
pub mod Memory
pub mod Modules
pub mod Registers
pub mod views
