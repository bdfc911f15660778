-- Each way out is what the definition says there.
use Rattle.std.proofs.Common.{rules}
use Rattle.assembler_text.specs.naming.Words.{is_end_of_line}
use Rattle.assembler_text.proofs.naming.words.is_end.Goals as goal

pub returns-in-empty : goal.returns-in-empty
unfolding is_end_of_line
returns-in-empty c = search rules

pub returns-in-len1-up : goal.returns-in-len1-up
unfolding is_end_of_line
returns-in-len1-up c = search rules
