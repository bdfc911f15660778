-- Each way out is what the definition says there.
use Rattle.std.proofs.Common.{rules}
use Rattle.instances_table.specs.Changes.{preferring}
use Rattle.instances_table.proofs.table.InstanceTable.prefer.Goals as goal

pub returns-then-is_none : goal.returns-then-is_none
unfolding preferring
returns-then-is_none c = search rules

pub returns-in_err-place : goal.returns-in_err-place
unfolding preferring
returns-in_err-place c = search rules

pub returns-in_err-slot : goal.returns-in_err-slot
unfolding preferring
returns-in_err-slot c = search rules

pub returns : goal.returns
unfolding preferring
returns c = search rules
