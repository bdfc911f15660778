-- By the lemmas of `block_steps`.
use Rattle.std.proofs.Common.{arith}
use Rattle.command_shell_lines.proofs.BlockLemmas.{block_steps}
use Rattle.command_shell_lines.proofs.blocks.read_block.Goals as goal

pub loop-line-init : goal.loop-line-init
loop-line-init c = grind (arith, block_steps)

pub returns-then-is_block_end-clause-block : goal.returns-then-is_block_end-clause-block
returns-then-is_block_end-clause-block c = grind (arith, block_steps)

pub returns-then-is_block_end-clause-left : goal.returns-then-is_block_end-clause-left
returns-then-is_block_end-clause-left c = grind (arith, block_steps)

pub returns-then-is_block_end-clause-number : goal.returns-then-is_block_end-clause-number
returns-then-is_block_end-clause-number c = grind (arith, block_steps)

pub returns-then-not-branch-clause-block : goal.returns-then-not-branch-clause-block
returns-then-not-branch-clause-block c = grind (arith, block_steps)

pub returns-then-not-branch-clause-left : goal.returns-then-not-branch-clause-left
returns-then-not-branch-clause-left c = grind (arith, block_steps)

pub returns-then-not-branch-clause-number : goal.returns-then-not-branch-clause-number
returns-then-not-branch-clause-number c = grind (arith, block_steps)

pub loop-line-preserved : goal.loop-line-preserved
loop-line-preserved c = grind (arith, block_steps)

pub returns-clause-block : goal.returns-clause-block
returns-clause-block c = grind (arith, block_steps)

pub returns-clause-left : goal.returns-clause-left
returns-clause-left c = grind (arith, block_steps)

pub returns-clause-number : goal.returns-clause-number
returns-clause-number c = grind (arith, block_steps)
