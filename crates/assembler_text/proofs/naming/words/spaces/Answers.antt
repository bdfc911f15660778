-- Each way out is what the definition says there.
use Rattle.std.proofs.Common.{rules}
use Rattle.assembler_text.specs.naming.Words.{spaces}
use Rattle.assembler_text.proofs.naming.words.spaces.Goals as goal

pub returns-in_err-byte : goal.returns-in_err-byte
unfolding spaces
returns-in_err-byte c = search rules

pub returns : goal.returns
unfolding spaces
returns c = search rules
