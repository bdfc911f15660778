use Rattle.std.proofs.Common.{◌≡◌, drop}
use Rattle.command_shell_lines.specs.FailedBlocks.{line_of_block}
use Rattle.command_shell_lines.proofs.failed_blocks.line_of_block.Given as goal

-- none of the blocks that were passed has the name
abbrev pub invariant-loop-block : goal.invariant-loop-block
invariant-loop-block l = line_of_block (drop l.block-index l.blocks) l.name ≡ line_of_block l.blocks l.name
