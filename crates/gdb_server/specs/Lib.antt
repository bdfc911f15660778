-- What GDB's bytes are answered with. Begin with Serving.
pub use Rattle.debug_session.specs.RunError
pub use Rattle.debug_session.specs.DebugState
pub use Rattle.debug_session.specs.declared.session.DebugSettings
pub use Rattle.gdb_machine.specs.Memory
pub mod Serving
pub mod Server
pub mod Laws
pub mod session
