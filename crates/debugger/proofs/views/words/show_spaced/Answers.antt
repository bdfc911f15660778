-- By the lemmas of `word_steps`.
use Rattle.std.proofs.Common.{arith}
use Rattle.debugger.proofs.ViewsLemmas.WordLemmas.{word_steps}
use Rattle.debugger.proofs.views.words.show_spaced.Goals as goal

pub loop-left-preserved : goal.loop-left-preserved
loop-left-preserved g c = grind (arith, word_steps)

pub returns : goal.returns
returns g c = grind (arith, word_steps)
