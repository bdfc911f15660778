-- By table_views, which say what is read of the list that the table stands for.
use Rattle.std.proofs.Common.{arith}
use Rattle.instances_table.proofs.ViewLemmas.{table_views}
use Rattle.instances_table.proofs.table.InstanceTable.of_title.Goals as goal

pub returns-in_err-number : goal.returns-in_err-number
returns-in_err-number c = grind (arith, table_views)

pub returns : goal.returns
returns c = grind (arith, table_views)
