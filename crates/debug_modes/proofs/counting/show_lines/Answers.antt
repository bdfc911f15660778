-- By the lemmas of `line_steps`.
use Rattle.std.proofs.Common.{arith}
use Rattle.debug_modes.proofs.CountingLemmas.{line_steps}
use Rattle.debug_modes.proofs.counting.show_lines.Goals as goal

pub loop-words-preserved : goal.loop-words-preserved
loop-words-preserved g c = grind (arith, line_steps)
