-- As the definition says.
use Rattle.std.proofs.Common.{rules}
use Rattle.assembler_text.specs.naming.Names.{block_mode_named}
use Rattle.assembler_text.proofs.naming.names.block_mode_named.Goals as goal

pub returns : goal.returns
unfolding block_mode_named
returns c = search rules
