-- Each way out is what the definition says there.
use Rattle.std.proofs.Common.{rules}
use Rattle.assembler_text.specs.naming.Words.{comma}
use Rattle.assembler_text.proofs.naming.words.comma.Goals as goal

pub returns-in_err-byte : goal.returns-in_err-byte
unfolding comma
returns-in_err-byte c = search rules

pub returns : goal.returns
unfolding comma
returns c = search rules
