-- As the definition says.
use Rattle.std.proofs.lemmas.Grind.{common_steps}
use Rattle.std.proofs.Common.{arith}
use Rattle.assembler_text.specs.naming.Words.{after_spaces}
use Rattle.assembler_text.proofs.naming.words.after_spaces.Goals as goal

pub returns : goal.returns
unfolding after_spaces
returns c = grind (arith, common_steps)
