-- By the lemmas of `code_steps`.
use Rattle.std.proofs.Common.{arith}
use Rattle.debugger.proofs.CodeLines.{code_steps}
use Rattle.debugger.proofs.code.show_words.Goals as goal

pub loop-words-preserved : goal.loop-words-preserved
loop-words-preserved g c = grind (arith, code_steps)
