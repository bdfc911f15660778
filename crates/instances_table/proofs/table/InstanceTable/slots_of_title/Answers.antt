use Rattle.std.proofs.Common.{sym, ◌∙◌}
use Rattle.instances_table.proofs.RoomViews.{titled_view}
use Rattle.instances_table.proofs.table.InstanceTable.slots_of_title.Goals as goal

pub returns-clause-value : goal.returns-clause-value
returns-clause-value c =
    rw (← c.self.view_is)
    (rw c.as_slice.ensures.value at c.slots_of_title.ensures
    ∙ sym (titled_view c.self.inside.names c.args.title.now c.self.inside.modules.items (c.self.invariant.titles c.args.title.now)))
