-- As the definition says.
use Rattle.std.proofs.lemmas.Grind.{common_steps}
use Rattle.std.proofs.Common.{arith}
use Rattle.assembler_text.specs.naming.Words.{after_word}
use Rattle.assembler_text.proofs.naming.words.after_word.Goals as goal

pub returns : goal.returns
unfolding after_word
returns c = grind (arith, common_steps)
