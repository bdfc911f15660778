-- Each way out is what the definition says there.
use Rattle.std.proofs.Common.{rules}
use Rattle.instances_table.specs.Changes.{modules_after_instantiate}
use Rattle.instances_table.proofs.table.InstanceTable.instantiate.Goals as goal

pub returns-in_err-new : goal.returns-in_err-new
unfolding modules_after_instantiate
returns-in_err-new c = search rules

pub returns : goal.returns
unfolding modules_after_instantiate
returns c = search rules
