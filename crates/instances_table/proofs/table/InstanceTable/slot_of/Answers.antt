use Rattle.instances_table.proofs.ViewLemmas.{held_if, below_if}
use Rattle.instances_table.proofs.table.InstanceTable.slot_of.Goals as goal

pub returns-clause-held : goal.returns-clause-held
returns-clause-held c = held_if c.args.place.instance _ _ c.slot_at.ensures

pub returns-clause-below : goal.returns-clause-below
returns-clause-below c =
    below_if _ c.args.place.number c.args.place.instance _ (rw c.self.view_is at c.self.invariant) c.slot_at.ensures
