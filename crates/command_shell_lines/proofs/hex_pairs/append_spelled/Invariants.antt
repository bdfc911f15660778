use Rattle.std.proofs.Common.{◌≡◌, length}
use Rattle.command_shell_lines.specs.HexPairs.{with_spelled}
use Rattle.command_shell_lines.proofs.hex_pairs.append_spelled.Given as goal

-- the bytes so far and those of what is left are those of the line
abbrev pub invariant-loop-first : goal.invariant-loop-first
invariant-loop-first l = with_spelled l.fn.bytes.items l.line ≡ with_spelled l.bytes.items l.rest

abbrev pub decreases-loop-first : goal.decreases-loop-first
decreases-loop-first l = length l.rest
