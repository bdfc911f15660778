-- The labels of assembled images, and words that name places. Begin with Labels and Standing.
pub use Rattle.debugger.specs.Boot
pub use Rattle.debugger.specs.BootError
pub use Rattle.debugger.specs.Bytes
pub use Rattle.debugger.specs.Flex
pub use Rattle.debugger.specs.Frame
pub use Rattle.debugger.specs.Halt
pub use Rattle.debugger.specs.Heap
pub use Rattle.debugger.specs.Memory
pub use Rattle.debugger.specs.Payload
pub use Rattle.debugger.specs.Payloads
pub use Rattle.debugger.specs.Reading
pub use Rattle.debugger.specs.Registers
pub use Rattle.debugger.specs.Strings
pub use Rattle.debugger.specs.TextEnd
pub use Rattle.debugger.specs.Value
pub use Rattle.debugger.specs.Writes
pub use Rattle.debugger.specs.views as Debuggerviews
pub use Rattle.debugger.specs.views.Banks
pub use Rattle.debugger.specs.views.Quoted
pub use Rattle.debugger.specs.views.Words as DebuggerWords
pub mod Images
pub mod Labels
pub mod Lines
pub mod ModuleSwis
pub mod Places
pub mod Reasons
pub mod Standing
pub mod Views
pub mod Words
pub mod place_views
