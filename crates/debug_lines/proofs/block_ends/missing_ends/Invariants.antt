use Rattle.std.proofs.Common.{◌≡◌, length}
use Rattle.profile.specs.text_lines.WholeLines.{unended_line, whole_lines}
use Rattle.debug_lines.specs.BlockEnds.{blocks_after_lines, blocks_read, blocks_read_from}
use Rattle.debug_lines.proofs.block_ends.missing_ends.Given as goal

-- what is read, and the lines that are left, are all lines
abbrev pub invariant-loop-line : goal.invariant-loop-line
invariant-loop-line l = record {
  lines : blocks_after_lines (blocks_read l.reading) (whole_lines l.rest)
      ≡ blocks_after_lines (blocks_read_from l.number) (whole_lines l.text);
  unended : unended_line l.rest ≡ unended_line l.text;
}

abbrev pub decreases-loop-line : goal.decreases-loop-line
decreases-loop-line l = length l.rest
