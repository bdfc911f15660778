use Rattle.std.proofs.Common.{◌≡◌, ◌+◌, ◌-◌, ◌≤◌, ◌++◌, length}
use Rattle.command_shell_lines.specs.Blocks.{block_lines}
use Rattle.debug_listing.specs.BlockErrors.{source_without}
use Rattle.debug_listing.proofs.block_errors.source_without.Given as goal

-- what stands written, and the lines that are left, is all
abbrev pub invariant-loop-line : goal.invariant-loop-line
invariant-loop-line l = record {
  source : l.source.items ++ source_without l.errors (l.lines.number - l.before + 1) (block_lines l.lines.left)
      ≡ source_without l.errors 1 (block_lines l.block.left);
  later : l.before ≤ l.lines.number;
}

abbrev pub decreases-loop-line : goal.decreases-loop-line
decreases-loop-line l = length l.lines.left
