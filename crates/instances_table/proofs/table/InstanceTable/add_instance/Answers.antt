use Rattle.std.proofs.Common.{◌<◌, length, set, refl, arith}
use Rattle.std.proofs.lemmas.List.{length-map}
use Rattle.instances_table.specs.Table.{module_of}
use Rattle.instances_table.proofs.ModuleLemmas.{instance_added}
use Rattle.instances_table.proofs.ViewLemmas.{added_view, room_view}
use Rattle.instances_table.proofs.table.InstanceTable.add_instance.Goals as goal

pub push_slot-requires-clause-room : goal.push_slot-requires-clause-room
push_slot-requires-clause-room c = λ d.
    let w = rw (← c.self.view_is) at c.requires.number in
    let within : c.args.number < length c.self.inside.modules.items =
    omega (arith, w, length-map c.self.inside.modules.items (module_of c.self.inside.names)) in
    room_view c.self.inside.names c.self.inside.modules.items c.args.number c.args.slot d c.self.invariant c.requires.below
    (rw (← c.self.view_is) at c.requires.free) within

pub invariant_of-self : goal.invariant_of-self
invariant_of-self c =
    let below : c.args.slot < length c.self.inside.names = omega arith in
    rw (
      c.push_slot.ensures (set c.self.inside.names c.args.slot c.name_of.result),
      added_view c.self.inside.names c.self.inside.modules.items c.args.number c.args.slot c.name_of.result below (rw (← c.self.view_is) at c.requires.free),
      c.name_of.ensures,
    )
    (instance_added _ c.args.number c.args.name.now c.args.slot c.self.invariant c.requires.below (rw (← c.self.view_is) at c.requires.free)
    (rw (← c.self.view_is) at c.requires.unnamed))

pub returns : goal.returns
returns c =
    let below : c.args.slot < length c.self.inside.names = omega arith in
    rw (
      c.push_slot.ensures (set c.self.inside.names c.args.slot c.name_of.result),
      added_view c.self.inside.names c.self.inside.modules.items c.args.number c.args.slot c.name_of.result below (rw (← c.self.view_is) at c.requires.free),
      c.name_of.ensures,
      c.self.view_is,
    ) refl
