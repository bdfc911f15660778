-- As the definition says.
use Rattle.std.proofs.Common.{rules}
use Rattle.assembler_text.specs.naming.Names.{shift_named}
use Rattle.assembler_text.proofs.naming.names.shift_named.Goals as goal

pub returns : goal.returns
unfolding shift_named
returns c = search rules
