use Rattle.std.proofs.Common.{◌≡◌, ◌-◌, ◌+◌, ◌<◌, true, refl, sym, ◌∙◌, arith}
use Rattle.instances_table.specs.Changes.{free_slot, is_slot_held, titled_otherwise}
use Rattle.instances_table.specs.Table.{modules_of}
use Rattle.instances_table.proofs.RoomLemmas.{few_modules}
use Rattle.instances_table.proofs.SlotLemmas.{free_passed, free_here, none_free}
use Rattle.instances_table.proofs.table.InstanceTable.free_slot_for.Goals as goal

pub loop-slot-init : goal.loop-slot-init
unfolding free_slot
loop-slot-init c = refl

pub loop-slot-preserved : goal.loop-slot-preserved
loop-slot-preserved c =
    let held : is_slot_held c.loop-slot.slot (titled_otherwise c.args.title.now c.args.self.now) ≡ true = sym c.is_held_beside.ensures ∙ c.if-not-is_held_beside.false in
    let below : c.loop-slot.slot < 64 = omega arith in
    sym (free_passed _ c.loop-slot.slot (64 - c.loop-slot.slot) (64 - (c.loop-slot.slot + 1)) held (omega arith)) ∙ c.loop-slot.invariant

pub returns-then-not-is_held_beside-clause-few : goal.returns-then-not-is_held_beside-clause-few
returns-then-not-is_held_beside-clause-few c = rw (← c.self.view_is) (few_modules (modules_of c.self.inside.names c.self.inside.modules.items) c.self.invariant)

pub returns-clause-few : goal.returns-clause-few
returns-clause-few c = rw (← c.self.view_is) (few_modules (modules_of c.self.inside.names c.self.inside.modules.items) c.self.invariant)

pub returns-then-not-is_held_beside-clause-value : goal.returns-then-not-is_held_beside-clause-value
returns-then-not-is_held_beside-clause-value c = grind (arith, free_here, none_free)

pub returns-clause-value : goal.returns-clause-value
returns-clause-value c = grind (arith, free_here, none_free)
