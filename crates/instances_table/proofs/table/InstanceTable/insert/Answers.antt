-- Each way out is what the definition says there.
use Rattle.std.proofs.Common.{rules}
use Rattle.instances_table.specs.Changes.{with_module}
use Rattle.instances_table.proofs.table.InstanceTable.insert.Goals as goal

pub returns-then-is_new-clause-table : goal.returns-then-is_new-clause-table
unfolding with_module
returns-then-is_new-clause-table c = search rules

pub returns-else-is_new-clause-table : goal.returns-else-is_new-clause-table
unfolding with_module
returns-else-is_new-clause-table c = search rules
