-- Each way out is what the definition says there.
use Rattle.std.proofs.Common.{rules}
use Rattle.assembler_text.specs.naming.Names.{register_named}
use Rattle.assembler_text.proofs.naming.names.register_named.Goals as goal

pub returns-then-is_name : goal.returns-then-is_name
unfolding register_named
returns-then-is_name c = search rules

pub returns-then-is_name-2 : goal.returns-then-is_name-2
unfolding register_named
returns-then-is_name-2 c = search rules

pub returns-then-is_name-3 : goal.returns-then-is_name-3
unfolding register_named
returns-then-is_name-3 c = search rules

pub returns-else-is_name-3 : goal.returns-else-is_name-3
unfolding register_named
returns-else-is_name-3 c = search rules
