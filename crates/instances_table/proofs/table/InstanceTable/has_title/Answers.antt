-- By the lemmas of `ViewLemmas`.
use Rattle.std.proofs.Common.{arith}
use Rattle.instances_table.proofs.ViewLemmas.{view_steps}
use Rattle.instances_table.proofs.table.InstanceTable.has_title.Goals as goal

pub returns : goal.returns
returns c = grind (arith, view_steps)
