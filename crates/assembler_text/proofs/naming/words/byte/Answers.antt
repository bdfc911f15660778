-- Each way out is what the definition says there.
use Rattle.std.proofs.Common.{rules}
use Rattle.assembler_text.specs.naming.Words.{byte}
use Rattle.assembler_text.proofs.naming.words.byte.Goals as goal

pub returns-in_err-first : goal.returns-in_err-first
unfolding byte
returns-in_err-first c = search rules

pub returns-then-first-c : goal.returns-then-first-c
unfolding byte
returns-then-first-c c = search rules

pub returns-else-first-c : goal.returns-else-first-c
unfolding byte
returns-else-first-c c = search rules
