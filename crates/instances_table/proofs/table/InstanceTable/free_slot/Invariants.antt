use Rattle.std.proofs.Common.{◌≡◌, ◌-◌}
use Rattle.instances_table.specs.Changes.{free_slot, lowest_free}
use Rattle.instances_table.proofs.table.InstanceTable.free_slot.Given as goal

-- all slots so far are held
abbrev pub invariant-loop-slot : goal.invariant-loop-slot
invariant-loop-slot l = lowest_free l.self l.slot (64 - l.slot) ≡ free_slot l.self
