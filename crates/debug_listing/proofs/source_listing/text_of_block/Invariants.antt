use Rattle.std.proofs.Common.{◌≡◌, ◌+◌, ◌-◌, ◌≤◌, [], ◌++◌, length}
use Rattle.command_shell_lines.specs.Blocks.{block_lines}
use Rattle.debug_listing.specs.BlockErrors.{source_without}
use Rattle.debug_listing.proofs.source_listing.text_of_block.Given as goal

-- what stands written, and the lines that are left, is all
abbrev pub invariant-loop-line : goal.invariant-loop-line
invariant-loop-line l = record {
  text : l.text.items ++ source_without [] (l.lines.number - l.block.number + 1) (block_lines l.lines.left)
      ≡ source_without [] 1 (block_lines l.block.left);
  later : l.block.number ≤ l.lines.number;
}

abbrev pub decreases-loop-line : goal.decreases-loop-line
decreases-loop-line l = length l.lines.left
