use Rattle.instances_table.proofs.ModuleLemmas.{image_moved}
use Rattle.instances_table.proofs.table.InstanceTable.moved.Goals as goal

pub invariant_of-self : goal.invariant_of-self
invariant_of-self c = rw (c.set_image.ensures c.self.inside.names) (image_moved _ _ _ c.self.invariant)
