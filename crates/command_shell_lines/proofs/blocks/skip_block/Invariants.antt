use Rattle.std.proofs.Common.{◌≡◌, ◌+◌, ◌≤◌, length}
use Rattle.command_shell_lines.specs.Blocks.{block_lines, after_block, lines_in_block}
use Rattle.command_shell_lines.proofs.blocks.skip_block.Given as goal

abbrev pub invariant-loop-line : goal.invariant-loop-line
invariant-loop-line l = record {
  left : after_block l.script.left ≡ after_block l.fn.script.left;
  number : l.script.number + lines_in_block l.script.left ≡ l.fn.script.number + lines_in_block l.fn.script.left;
  lines : l.script.number + length (block_lines l.script.left) ≡ l.first + length (block_lines l.fn.script.left);
  later : l.first ≤ l.script.number;
}

abbrev pub decreases-loop-line : goal.decreases-loop-line
decreases-loop-line l = length l.script.left
