-- By the lemmas of `line_steps`.
use Rattle.std.proofs.Common.{arith}
use Rattle.debugger.proofs.ViewsLemmas.WordLemmas.{line_steps}
use Rattle.debugger.proofs.views.words.show_words.Goals as goal

pub loop-left-preserved : goal.loop-left-preserved
loop-left-preserved g c = grind (arith, line_steps)

pub returns : goal.returns
returns g c = grind (arith, line_steps)
