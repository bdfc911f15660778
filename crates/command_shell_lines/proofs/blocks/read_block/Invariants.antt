use Rattle.std.proofs.Common.{◌≡◌, ◌≤◌, ◌+◌, ◌-◌, length}
use Rattle.command_shell_lines.specs.Blocks.{block_lines, after_block, lines_in_block, block_bytes}
use Rattle.command_shell_lines.proofs.BlockLemmas.{block_onto}
use Rattle.command_shell_lines.proofs.blocks.read_block.Given as goal

abbrev pub invariant-loop-line : goal.invariant-loop-line
invariant-loop-line l = record {
  bytes : block_onto l.bytes.items (l.script.number - l.first) l.script.left
      ≡ block_bytes 0 (block_lines l.fn.script.left);
  left : after_block l.script.left ≡ after_block l.fn.script.left;
  number : l.script.number + lines_in_block l.script.left ≡ l.fn.script.number + lines_in_block l.fn.script.left;
  first : l.first ≡ l.fn.script.number;
  later : l.first ≤ l.script.number;
}

abbrev pub decreases-loop-line : goal.decreases-loop-line
decreases-loop-line l = length l.script.left
