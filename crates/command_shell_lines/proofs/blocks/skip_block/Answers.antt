-- By the lemmas of `block_steps`.
use Rattle.std.proofs.Common.{arith}
use Rattle.command_shell_lines.proofs.BlockLemmas.{block_steps}
use Rattle.command_shell_lines.proofs.blocks.skip_block.Goals as goal

pub returns-then-is_block_end-clause-lines : goal.returns-then-is_block_end-clause-lines
returns-then-is_block_end-clause-lines c = grind (arith, block_steps)

pub returns-then-is_block_end-clause-front : goal.returns-then-is_block_end-clause-front
returns-then-is_block_end-clause-front c = grind (arith, block_steps)

pub returns-then-is_block_end-clause-left : goal.returns-then-is_block_end-clause-left
returns-then-is_block_end-clause-left c = grind (arith, block_steps)

pub returns-then-is_block_end-clause-number : goal.returns-then-is_block_end-clause-number
returns-then-is_block_end-clause-number c = grind (arith, block_steps)

pub loop-line-preserved : goal.loop-line-preserved
loop-line-preserved c = grind (arith, block_steps)

pub returns-clause-lines : goal.returns-clause-lines
returns-clause-lines c = grind (arith, block_steps)

pub returns-clause-front : goal.returns-clause-front
returns-clause-front c = grind (arith, block_steps)

pub returns-clause-left : goal.returns-clause-left
returns-clause-left c = grind (arith, block_steps)

pub returns-clause-number : goal.returns-clause-number
returns-clause-number c = grind (arith, block_steps)
