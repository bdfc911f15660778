use Rattle.std.proofs.Common.{◌≡◌, Some, sym, ◌∙◌}
use Rattle.std.specs.Prelude.{slice_get}
use Rattle.instances_table.proofs.ViewLemmas.{within_view}
use Rattle.instances_table.proofs.table.InstanceTable.instance_of_slot.Goals as goal

pub returns-clause-value : goal.returns-clause-value
returns-clause-value c =
    let found : slice_get c.as_slice.result.now c.args.number ≡ Some c.in_ok-loaded.loaded.now = sym c.in_ok-loaded.ensures in
    rw (← c.self.view_is) (rw c.as_slice-2.ensures.value at c.place_of_slot.ensures.value
    ∙ sym (within_view c.self.inside.names c.self.inside.modules.items c.args.number c.args.slot c.in_ok-loaded.loaded.now
    (rw c.as_slice.ensures.value at found)))
