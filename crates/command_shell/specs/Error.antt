-- Which errors the parts of a run can have, and the texts of a run's errors.
use Rattle.std.specs.Prelude.{ℕ, List, Result, Ok, Err, codes}
use Rattle.command_shell_lines.specs.declared.error.ReadingError.{ReadingError}
use Rattle.command_shell_lines.specs.declared.error.ReadingError.TheVariants as reading
use Rattle.command_shell.specs.declared.error.RunError.{RunError}
use Rattle.command_shell.specs.declared.error.RunError.TheVariants.{Memory, ReadFault, WriteFault, ScriptTooLong}

-- how a run ends whose script wasn't read
abbrev pub reading_end : ReadingError → RunError
reading_end reading.Memory = Memory
reading_end reading.ReadFault = ReadFault
reading_end reading.ScriptTooLong = ScriptTooLong

-- how a line ends that has nothing left to do but to be written
abbrev pub written_end : {U F : Type 0} → Result U F → Result U RunError
written_end (Ok done) = Ok done
written_end (Err fault) = Err WriteFault

-- while the lines of a script are answered
abbrev pub IsLineError : RunError → Type 0
IsLineError Memory = Unit {0}
IsLineError ReadFault = ⊥
IsLineError WriteFault = Unit {0}
IsLineError ScriptTooLong = ⊥

abbrev pub run_error_text : RunError → List ℕ
run_error_text Memory = codes "no memory for the script, the machine or an image"
run_error_text ReadFault = codes "the script can't be read"
run_error_text WriteFault = codes "the answers can't be written"
run_error_text ScriptTooLong = codes "the script has more than 1,048,576 bytes"
