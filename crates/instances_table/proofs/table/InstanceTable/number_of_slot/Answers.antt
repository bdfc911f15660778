use Rattle.std.proofs.Common.{sym, ◌∙◌}
use Rattle.instances_table.proofs.ViewLemmas.{holding_view}
use Rattle.instances_table.proofs.table.InstanceTable.number_of_slot.Goals as goal

pub returns-clause-value : goal.returns-clause-value
returns-clause-value c =
    rw (← c.self.view_is) (rw c.as_slice.ensures.value at c.number_of_slot.ensures.value
    ∙ sym (holding_view c.self.inside.names c.args.slot c.self.inside.modules.items))
