use Rattle.std.proofs.Common.{◌≡◌, ◌++◌, drop}
use Rattle.instances_table.specs.Table.{all_slots}
use Rattle.instances_table.proofs.loaded.all_slots.Given as goal

-- the slots so far, and those of the modules that are left, are all
abbrev pub invariant-loop-loaded : goal.invariant-loop-loaded
invariant-loop-loaded l = l.slots.items ++ all_slots (drop l.loaded-index l.modules) ≡ all_slots l.modules
