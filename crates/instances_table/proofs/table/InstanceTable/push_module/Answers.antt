use Rattle.std.proofs.Common.{◌<◌, length, set, refl, ◌∙◌, arith}
use Rattle.std.proofs.lemmas.List.{length-map}
use Rattle.instances_table.specs.Changes.{new_module}
use Rattle.instances_table.specs.Table.{module_of, modules_of}
use Rattle.instances_table.proofs.ModuleLemmas.{module_added, new_parts}
use Rattle.instances_table.proofs.RoomLemmas.{room_for_module}
use Rattle.instances_table.proofs.ViewLemmas.{put_view}
use Rattle.instances_table.proofs.table.InstanceTable.push_module.Goals as goal

pub push-requires : goal.push-requires
push-requires c =
    let is = new_parts c.args.header.title.items c.args.slot (modules_of c.self.inside.names c.self.inside.modules.items) (rw (← c.self.view_is) at c.requires) in
    let room = room_for_module (modules_of c.self.inside.names c.self.inside.modules.items) c.args.slot c.self.invariant is.below is.free in
    omega (arith, room, length-map c.self.inside.modules.items (module_of c.self.inside.names))

pub invariant_of-self : goal.invariant_of-self
invariant_of-self c =
    let is = new_parts c.args.header.title.items c.args.slot (modules_of c.self.inside.names c.self.inside.modules.items) (rw (← c.self.view_is) at c.requires) in
    let below : c.args.slot < length c.self.inside.names = omega (arith, is.below) in
    rw (
      c.push.ensures.items,
      put_view c.self.inside.names c.self.inside.modules.items c.new_module.result c.args.slot c.name_of.result (new_module c.args.header c.args.image c.args.slot) below is.free
          (λ put. c.new_module.ensures (set c.self.inside.names c.args.slot c.name_of.result) (put ∙ c.name_of.ensures)),
    )
    (module_added (modules_of c.self.inside.names c.self.inside.modules.items) c.args.header c.args.image c.args.slot c.self.invariant is.below is.free is.untitled)

pub returns : goal.returns
returns c =
    let is = new_parts c.args.header.title.items c.args.slot (modules_of c.self.inside.names c.self.inside.modules.items) (rw (← c.self.view_is) at c.requires) in
    let below : c.args.slot < length c.self.inside.names = omega (arith, is.below) in
    rw (
      c.push.ensures.items,
      put_view c.self.inside.names c.self.inside.modules.items c.new_module.result c.args.slot c.name_of.result (new_module c.args.header c.args.image c.args.slot) below is.free
          (λ put. c.new_module.ensures (set c.self.inside.names c.args.slot c.name_of.result) (put ∙ c.name_of.ensures)),
      c.self.view_is,
    ) refl
