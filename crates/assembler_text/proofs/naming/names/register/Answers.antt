-- Each way out is what the definition says there.
use Rattle.std.proofs.Common.{rules}
use Rattle.assembler_text.specs.naming.Names.{register}
use Rattle.assembler_text.proofs.naming.names.register.Goals as goal

pub returns-in_err-named : goal.returns-in_err-named
unfolding register
returns-in_err-named c = search rules

pub returns : goal.returns
unfolding register
returns c = search rules
