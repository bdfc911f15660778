-- By the lemmas of `output_steps`.
use Rattle.std.proofs.Common.{arith}
use Rattle.profile.proofs.OutputLemmas.{output_steps}
use Rattle.trace_store_text.proofs.flex_lines.push_gone_blocks.Goals as goal

pub loop-block-preserved : goal.loop-block-preserved
loop-block-preserved g c = grind (arith, output_steps)
