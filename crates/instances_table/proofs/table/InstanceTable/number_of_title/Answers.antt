-- By table_views, which say what is read of the list that the table stands for.
use Rattle.std.proofs.Common.{arith}
use Rattle.instances_table.proofs.ViewLemmas.{table_views}
use Rattle.instances_table.proofs.table.InstanceTable.number_of_title.Goals as goal

pub returns-clause-value : goal.returns-clause-value
returns-clause-value c = grind (arith, table_views)
