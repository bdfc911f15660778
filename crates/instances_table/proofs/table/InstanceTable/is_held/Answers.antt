-- By the lemmas of `ViewLemmas`.
use Rattle.std.proofs.Common.{arith}
use Rattle.instances_table.proofs.ViewLemmas.{held_view}
use Rattle.instances_table.proofs.table.InstanceTable.is_held.Goals as goal

pub returns : goal.returns
returns c = grind (arith, held_view)
