-- Why serving GDB ends early.
use Rattle.command_shell.specs.declared.error.RunError.{RunError}
use Rattle.command_shell.specs.declared.error.RunError.TheVariants as run
use Rattle.rosm_settings.specs.declared.gdb.serve_error.ServeError.{ServeError}
use Rattle.rosm_settings.specs.declared.gdb.serve_error.ServeError.TheVariants as why

-- why serving ends where a request can't be answered
abbrev pub serve_error : RunError → ServeError
serve_error run.Memory = why.Memory
serve_error run.ReadFault = why.ReadFault
serve_error run.WriteFault = why.WriteFault
serve_error run.ScriptTooLong = why.TooMuch
