use Rattle.std.proofs.Common.{◌≡◌, ◌-◌, ◌≤◌, ◌++◌, length}
use Rattle.command_shell_lines.specs.Blocks.{block_lines}
use Rattle.debug_listing.specs.BlockErrorTexts.{errors_text}
use Rattle.debug_listing.proofs.block_error_texts.push_errors.Given as goal

-- what stands written, and the errors of the lines that are left, is all
abbrev pub invariant-loop-line : goal.invariant-loop-line
invariant-loop-line l = record {
  text : l.text.items ++ errors_text l.errors (l.lines.number - l.before) l.lines.number (block_lines l.lines.left)
      ≡ l.fn.text.items ++ errors_text l.errors 0 l.block.number (block_lines l.block.left);
  later : l.before ≤ l.lines.number;
}

abbrev pub decreases-loop-line : goal.decreases-loop-line
decreases-loop-line l = length l.lines.left
