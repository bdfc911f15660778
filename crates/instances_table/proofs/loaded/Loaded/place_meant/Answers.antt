use Rattle.std.proofs.Common.{sym, ◌∙◌}
use Rattle.instances_table.specs.Modules.{has_name, has_slot}
use Rattle.instances_table.specs.Table.{instance_of}
use Rattle.instances_table.proofs.ViewLemmas.{position-map}
use Rattle.instances_table.proofs.loaded.Loaded.place_meant.Goals as goal

pub returns-in-Some-clause-value : goal.returns-in-Some-clause-value
returns-in-Some-clause-value c =
    rw c.in-Some.is (rw c.as_slice.ensures.value at c.place_of_name.ensures.value
    ∙ sym (position-map (instance_of c.args.names.now) (has_name c.in-Some.name.now) c.args.self.now.slots.items))

pub returns-in-None-clause-value : goal.returns-in-None-clause-value
returns-in-None-clause-value c =
    rw c.in-None.is (rw c.as_slice-in-None.ensures.value at c.place_of_slot.ensures.value
    ∙ sym (position-map (instance_of c.args.names.now) (has_slot c.args.self.now.preferred) c.args.self.now.slots.items))
