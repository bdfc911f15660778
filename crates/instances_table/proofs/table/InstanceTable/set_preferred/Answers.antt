use Rattle.instances_table.proofs.ModuleLemmas.{other_preferred}
use Rattle.instances_table.proofs.table.InstanceTable.set_preferred.Goals as goal

pub invariant_of-self : goal.invariant_of-self
invariant_of-self c =
    rw (c.set_preferred.ensures c.self.inside.names)
    (other_preferred _ _ _ c.self.invariant (rw (← c.self.view_is) at c.requires.held))
