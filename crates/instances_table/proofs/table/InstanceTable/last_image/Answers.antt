use Rattle.instances_table.proofs.table.InstanceTable.last_image.Goals as goal

pub returns : goal.returns
returns c = rw (← c.self.view_is) (rw c.as_slice.ensures.value at c.image_of_last.ensures c.self.inside.names)
