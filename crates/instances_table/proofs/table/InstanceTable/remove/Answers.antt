use Rattle.instances_table.proofs.RemoveLemmas.{instance_gone}
use Rattle.instances_table.proofs.table.InstanceTable.remove.Goals as goal

pub invariant_of-self : goal.invariant_of-self
invariant_of-self c = rw (c.remove_instance.ensures c.self.inside.names) (instance_gone _ _ c.self.invariant)
