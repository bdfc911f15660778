use Rattle.std.proofs.Common.{◌≡◌, ◌-◌}
use Rattle.instances_table.specs.Changes.{free_slot_for, lowest_free, titled_otherwise}
use Rattle.instances_table.proofs.table.InstanceTable.free_slot_for.Given as goal

-- all slots so far are held
abbrev pub invariant-loop-slot : goal.invariant-loop-slot
invariant-loop-slot l = lowest_free (titled_otherwise l.title l.self) l.slot (64 - l.slot) ≡ free_slot_for l.title l.self
