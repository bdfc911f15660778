use Rattle.std.proofs.Common.{◌≡◌, length}
use Rattle.debug_modes.specs.expectations.Checks.{last_line, last_line_or}
use Rattle.debug_modes.proofs.expectations.answers.last_line.Given as goal

-- the last of the lines that are left, or the last that was read
abbrev pub invariant-loop-line : goal.invariant-loop-line
invariant-loop-line l = last_line_or l.last l.lines.left ≡ last_line l.answer

abbrev pub decreases-loop-line : goal.decreases-loop-line
decreases-loop-line l = length l.lines.left
