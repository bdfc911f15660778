use Rattle.std.proofs.Common.{◌≡◌, ◌+◌, ◌≤◌, length}
use Rattle.profile.proofs.text_lines.lines.Lines.count.Given as goal

-- lines that are left come to be lines that were read
abbrev pub invariant-loop-line : goal.invariant-loop-line
invariant-loop-line l = record {
  all : l.lines.number + length l.lines.left ≡ l.self.number + length l.self.left;
  later : l.self.number ≤ l.lines.number;
}

abbrev pub decreases-loop-line : goal.decreases-loop-line
decreases-loop-line l = length l.lines.left
