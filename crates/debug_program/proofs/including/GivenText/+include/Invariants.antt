-- What is known of a file's text stays so, byte by byte.
use Rattle.std.proofs.Common.{◌+◌, ◌*◌, drop}
use Rattle.debug_program.specs.Including.{StaysKnown, file_given, given_bytes}
use Rattle.debug_program.specs.GivenText.{given_of}
use Rattle.debug_program.proofs.including.GivenText.+include.Given as goal

-- a line that includes a file, and the file
abbrev pub decreases-include : goal.decreases-include
decreases-include g l = 2 * l.depth

abbrev pub decreases-take_text : goal.decreases-take_text
decreases-take_text g l = 2 * l.depth + 1

abbrev pub invariant-take_text-loop-byte : goal.invariant-take_text-loop-byte
invariant-take_text-loop-byte g l = StaysKnown
    (given_bytes (file_given (g.D.ScriptFiles.text_of l.files) l.depth) l.path (given_of l.fn.self) l.bytes)
    (given_bytes (file_given (g.D.ScriptFiles.text_of l.files) l.depth) l.path (given_of l.self) (drop l.byte-index l.bytes))
