use Rattle.instances_table.proofs.CountLemmas.{shown_if}
use Rattle.instances_table.proofs.table.InstanceTable.instance.Goals as goal

pub returns-clause-below : goal.returns-clause-below
returns-clause-below c =
    shown_if _ c.args.number c.args.instance _ (rw c.self.view_is at c.self.invariant) c.reported.ensures
