-- By the lemmas of `NameLemmas`.
use Rattle.std.proofs.Common.{arith}
use Rattle.instances_table.proofs.NameLemmas.{take_rest}
use Rattle.instances_table.proofs.names.FullName.of.Goals as goal

pub returns-in-Some : goal.returns-in-Some
returns-in-Some c = grind (arith, take_rest)
