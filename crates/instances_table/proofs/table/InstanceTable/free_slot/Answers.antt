use Rattle.std.proofs.Common.{◌≡◌, ◌-◌, ◌+◌, ◌<◌, true, refl, sym, ◌∙◌, arith}
use Rattle.instances_table.specs.Changes.{free_slot, is_slot_held}
use Rattle.instances_table.proofs.SlotLemmas.{free_passed, free_here, none_free}
use Rattle.instances_table.proofs.table.InstanceTable.free_slot.Goals as goal

pub loop-slot-init : goal.loop-slot-init
unfolding free_slot
loop-slot-init c = refl

pub loop-slot-preserved : goal.loop-slot-preserved
loop-slot-preserved c =
    let held : is_slot_held c.loop-slot.slot c.args.self.now ≡ true = sym c.is_held.ensures ∙ c.if-not-is_held.false in
    let below : c.loop-slot.slot < 64 = omega arith in
    sym (free_passed _ c.loop-slot.slot (64 - c.loop-slot.slot) (64 - (c.loop-slot.slot + 1)) held (omega arith)) ∙ c.loop-slot.invariant

pub returns-then-not-is_held-clause-value : goal.returns-then-not-is_held-clause-value
returns-then-not-is_held-clause-value c = grind (arith, free_here, none_free)

pub returns-clause-value : goal.returns-clause-value
returns-clause-value c = grind (arith, free_here, none_free)
