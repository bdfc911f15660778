-- Each way out is what the definition says there.
use Rattle.std.proofs.Common.{rules}
use Rattle.instances_table.specs.Changes.{instance_room}
use Rattle.instances_table.proofs.table.InstanceTable.room_for.Goals as goal

pub returns-in_err-name-clause-value : goal.returns-in_err-name-clause-value
unfolding instance_room
returns-in_err-name-clause-value c = search rules

pub returns-then-not-is_instance_name-clause-value : goal.returns-then-not-is_instance_name-clause-value
unfolding instance_room
returns-then-not-is_instance_name-clause-value c = search rules

pub returns-in_err-number-clause-value : goal.returns-in_err-number-clause-value
unfolding instance_room
returns-in_err-number-clause-value c = search rules

pub returns-then-is_named-clause-value : goal.returns-then-is_named-clause-value
unfolding instance_room
returns-then-is_named-clause-value c = search rules

pub returns-in_err-slot-clause-value : goal.returns-in_err-slot-clause-value
unfolding instance_room
returns-in_err-slot-clause-value c = search rules

pub returns-clause-value : goal.returns-clause-value
unfolding instance_room
returns-clause-value c = search rules
