use Rattle.std.proofs.Common.{◌<◌, length, refl, arith}
use Rattle.instances_table.proofs.RenameLemmas.{other_name}
use Rattle.instances_table.proofs.ViewLemmas.{modules_named}
use Rattle.instances_table.proofs.table.InstanceTable.put_name.Goals as goal

pub invariant_of-self : goal.invariant_of-self
invariant_of-self c =
    let below : c.args.slot < length c.self.inside.names = omega arith in
    rw (modules_named c.self.inside.names c.args.slot c.name_of.result c.self.inside.modules.items below, c.name_of.ensures)
    (other_name _ c.args.number c.args.slot c.args.name.now c.self.invariant (rw (← c.self.view_is) at c.requires.held)
    (rw (← c.self.view_is) at c.requires.unnamed))

pub returns : goal.returns
returns c =
    let below : c.args.slot < length c.self.inside.names = omega arith in
    rw (modules_named c.self.inside.names c.args.slot c.name_of.result c.self.inside.modules.items below, c.name_of.ensures, c.self.view_is) refl
