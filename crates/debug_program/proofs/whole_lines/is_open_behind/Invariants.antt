use Rattle.std.proofs.Common.{◌≡◌, drop}
use Rattle.debug_program.specs.GoingOn.{is_open_behind}
use Rattle.debug_program.proofs.whole_lines.is_open_behind.Given as goal

-- by the bytes that are left it is as by all
abbrev pub invariant-loop-byte : goal.invariant-loop-byte
invariant-loop-byte l = is_open_behind l.is_open (drop l.byte-index l.piece) ≡ is_open_behind l.was_open l.piece
