-- As the definition says.
use Rattle.std.proofs.Common.{rules}
use Rattle.assembler_text.specs.naming.Words.{word}
use Rattle.assembler_text.proofs.naming.words.word.Goals as goal

pub returns : goal.returns
unfolding word
returns c = search rules
