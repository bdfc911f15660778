-- Each way out is what the definition says there.
use Rattle.std.proofs.Common.{rules}
use Rattle.instances_table.specs.Changes.{modules_after_rename}
use Rattle.instances_table.proofs.table.InstanceTable.rename.Goals as goal

pub returns-then-is_none : goal.returns-then-is_none
unfolding modules_after_rename
returns-then-is_none c = search rules

pub returns-in_err-place : goal.returns-in_err-place
unfolding modules_after_rename
returns-in_err-place c = search rules

pub returns-in_err-slot : goal.returns-in_err-slot
unfolding modules_after_rename
returns-in_err-slot c = search rules

pub returns-then-is_named : goal.returns-then-is_named
unfolding modules_after_rename
returns-then-is_named c = search rules

pub returns : goal.returns
unfolding modules_after_rename
returns c = search rules
