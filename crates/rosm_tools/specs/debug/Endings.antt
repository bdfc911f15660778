-- The exit status: 2 for a command line that can't be, 4 for anything else that keeps lines from
-- being answered, and else that of the lines.
use Rattle.std.specs.Prelude.{ℕ, Option, Some, Result, Ok, Err}
use Rattle.debug_program.specs.RunError.TheVariants as run
use Rattle.debug_program.specs.declared.including.IncludeRefusal.{IncludeRefusal}
use Rattle.debug_program.specs.declared.including.IncludeRefusal.TheVariants as include
use Rattle.rosm_tools.specs.declared.debug.refusal.DebugRefusal.{DebugRefusal}
use Rattle.rosm_tools.specs.declared.debug.refusal.DebugRefusal.TheVariants as refusal

abbrev pub debug_refusal_status : DebugRefusal → ℕ
debug_refusal_status refusal.Memory = 4
debug_refusal_status refusal.NotText = 2
debug_refusal_status (refusal.Line reason) = 2
debug_refusal_status (refusal.Sizes reason) = 2
debug_refusal_status (refusal.File path error) = 4
debug_refusal_status (refusal.Include reason) = 4
debug_refusal_status (refusal.Script error) = 4

abbrev pub ending_status : Result ℕ DebugRefusal → ℕ
ending_status (Ok status) = status
ending_status (Err refused) = debug_refusal_status refused

-- why a script that includes files can't be read on
abbrev pub include_refusal : IncludeRefusal → DebugRefusal
include_refusal include.Memory = refusal.Script run.Memory
include_refusal include.ReadFault = refusal.Script run.ReadFault
include_refusal include.TooLong = refusal.Script run.ScriptTooLong
include_refusal (include.Line reason) = refusal.Include reason

-- the ending of a script whose reader says why it can't be read on
abbrev pub ending_by_reader : Result ℕ DebugRefusal → Option IncludeRefusal → Result ℕ DebugRefusal
ending_by_reader (Err (refusal.Script run.ReadFault)) (Some why) = Err (include_refusal why)
ending_by_reader ending why = ending
